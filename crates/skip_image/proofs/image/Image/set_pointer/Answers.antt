use Rattle.std.proofs.Common.{◌≡◌, ℕ, ◌+◌, ◌-◌, ◌*◌, ◌<◌, ◌^◌, List, ap, ◌∙◌, arith}
use Rattle.std.specs.Int.{w32, w64, to_be_bytes}
use Rattle.check_word.specs.CheckWord.{check_word}
use Rattle.base_bytes.specs.Fields.{part}
use Rattle.base_bytes.specs.Landing.{written_at}
use Rattle.skip_form.specs.Flaws.{head_in}
use Rattle.skip_spec.specs.Records.{head_size_of}
use Rattle.skip_lists.proofs.Setting.{set_is}
use Rattle.skip_image.proofs.image.Image.set_pointer.Goals as goal

pub returns-clause-sets : goal.returns-clause-sets
returns-clause-sets c =
    let b = c.args.self.now.bytes in
    let middle = c.patch.new.self.bytes in
    let at = c.args.at in
    let n = head_size_of (head_in b at) in
    let size : c.head_size_at-checked.result ≡ n = c.head_size_at-checked.ensures ∙ ap (λ (d : List ℕ). head_size_of (head_in d at)) c.bytes.ensures in
    let first : middle ≡ written_at (at + 8 + 8 * c.args.slot) (to_be_bytes w64 c.args.to) b =
    c.patch.ensures.bytes ∙ ap (λ (x : List ℕ). written_at (at + 8 + 8 * c.args.slot) x b) c.to_be_bytes.ensures in
    let word : c.check-word.result ≡ check_word (part middle at (n - 8)) =
    c.check-word.ensures ∙ ap check_word (c.part_at.ensures.bytes ∙ ap (λ (d : List ℕ). part d at (c.head_size_at-checked.result - 8)) c.bytes-2.ensures ∙ ap (λ (k : ℕ). part middle at (k - 8)) size) in
    let second : c.patch-2.new.self.bytes ≡ written_at (at + (n - 8)) (to_be_bytes w32 c.check-word.result) middle =
    c.patch-2.ensures.bytes
    ∙ ap (λ (k : ℕ). written_at (at + (k - 8)) c.to_be_bytes-2.result middle) size
    ∙ ap (λ (x : List ℕ). written_at (at + (n - 8)) x middle) c.to_be_bytes-2.ensures in
    let small : c.check-word.result < 2 ^ 32 = let t = c.check-word.type_inv in omega arith in
    set_is b middle c.patch-2.new.self.bytes at c.args.slot c.args.to c.check-word.result c.requires.there c.requires.slot c.ranges.to.fits small first word second
