use Rattle.std.proofs.Common.{◌≡◌, ◌+◌, ◌-◌, ◌++◌, List, ℕ, take, drop, ap, ◌∙◌, arith}
use Rattle.skip_form.specs.declared.head.Kind.TheVariants.{Put}
use Rattle.skip_form.specs.Spelling.{record_bytes}
use Rattle.skip_spec.specs.Appending.{record_of}
use Rattle.skip_layout.specs.Items.{item_of}
use Rattle.skip_layout.specs.Sizes.{item_size}
use Rattle.skip_layout.proofs.PointerSteps.{own_pointers, placed}
use Rattle.skip_layout.proofs.log.write_before.Goals as goal

pub returns-clause-spelled : goal.returns-clause-spelled
returns-clause-spelled c = λ rest is.
    let item = c.args.item.now in
    let size = item_size (item_of item) in
    let k : c.args.at + c.size_of-size.result - c.args.at ≡ size = omega (arith, c.size_of-size.ensures) in
    let own = ap (λ (l : List ℕ). take (item.level + 1) l) is ∙ own_pointers item.level rest c.requires.fits.low c.requires.fits.high in
    placed c.args.records.now c.write_record.new.into c.args.at (c.args.at + c.size_of-size.result - c.args.at) size (omega (arith, c.requires.room)) k
    ∙ ap (λ (l : List ℕ). l ++ drop (c.args.at + size) c.args.records.now)
    (c.write_record.ensures ∙ ap (λ (l : List ℕ). record_bytes (record_of Put item.level l item.key.now item.value.now)) own)
