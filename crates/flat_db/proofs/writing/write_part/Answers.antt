use Rattle.std.proofs.Common.{◌∷◌, [], arith, length-append}
use Rattle.base_bytes.specs.Escapes.{escaped}
use Rattle.flat_db.proofs.Adding.{gathers_then, gathers_failed}
use Rattle.flat_db.proofs.writing.write_part.Goals as goal

pub returns-clause-gathers : goal.returns-clause-gathers
returns-clause-gathers g c =
    gathers_then (escaped c.args.field.now) (c.args.end ∷ []) (c.args.disk.now, c.args.piece.now) (c.write_field.new.disk, c.write_field.new.piece) _ _ c.write_byte.result c.in_ok-write_field.ensures.gathers c.write_byte.ensures.gathers

pub returns-in_err-write_field-clause-gathers : goal.returns-in_err-write_field-clause-gathers
returns-in_err-write_field-clause-gathers g c =
    gathers_failed (escaped c.args.field.now) _ (c.args.disk.now, c.args.piece.now) (c.write_field.new.disk, c.write_field.new.piece) _ _ (omega (arith, length-append (escaped c.args.field.now) (c.args.end ∷ []))) c.in_err-write_field.ensures.gathers
