use Rattle.std.specs.Prelude.{◌+◌, ◌-◌, length}
use Rattle.std.proofs.Common.{◌∙◌, arith, ap}
use Rattle.std.proofs.lemmas.Slice.{drop-put_mid}
use Rattle.index_form.proofs.fields.put.Goals as goal

pub returns-clause-behind : goal.returns-clause-behind
returns-clause-behind c =
    let end = c.args.at + length c.args.field.now in
    drop-put_mid c.args.at (end - c.args.at) c.args.bytes.now c.copy_from_slice.new.self end (omega arith) (omega (arith, c.requires)) (ap length c.copy_from_slice.ensures.after ∙ omega arith)
