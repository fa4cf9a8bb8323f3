use Rattle.std.proofs.Common.{◌≡◌, ◌∷◌, ◌++◌, [], ℕ, List, length, ap, subst, append_assoc, length-append, arith}
use Rattle.base_bytes.specs.Escapes.{escaped}
use Rattle.flat_db.specs.FlatText.{pair_line}
use Rattle.flat_db.specs.Writing.{AddsBytes, Gathers, filling}
use Rattle.flat_db.proofs.Adding.{adds_then, gathers_then, gathers_failed}
use Rattle.flat_db.proofs.writing.write_line.Goals as goal

-- the line in two parts
in_parts : (key value : List ℕ) → (escaped key ++ (9 ∷ [])) ++ (escaped value ++ (10 ∷ [])) ≡ pair_line key value
unfolding pair_line
in_parts key value = append_assoc (escaped key) (9 ∷ []) (escaped value ++ (10 ∷ []))

pub returns-clause-adds : goal.returns-clause-adds
returns-clause-adds g c =
    let on = g.met.D.Disk.rest_goes_on in
    subst (λ (l : List ℕ). AddsBytes l (filling (g.D.Disk.state c.args.disk.now) c.args.piece.now) (filling (g.D.Disk.state c.write_part-2.new.disk) c.write_part-2.new.piece) c.write_part-2.result) (in_parts c.args.key.now c.args.value.now)
    (adds_then _ _ _ _ c.write_part.new.piece _ (escaped c.args.key.now ++ (9 ∷ [])) (escaped c.args.value.now ++ (10 ∷ [])) _ (on _ _ c.write_part.ensures.rest) (on _ _ c.write_part-2.ensures.rest) c.in_ok-write_part.ensures.adds c.write_part-2.ensures.adds)

pub returns-clause-gathers : goal.returns-clause-gathers
returns-clause-gathers g c =
    subst (λ (l : List ℕ). Gathers l (c.args.disk.now, c.args.piece.now) (c.write_part-2.new.disk, c.write_part-2.new.piece) c.write_part-2.result) (in_parts c.args.key.now c.args.value.now)
    (gathers_then (escaped c.args.key.now ++ (9 ∷ [])) (escaped c.args.value.now ++ (10 ∷ [])) (c.args.disk.now, c.args.piece.now) (c.write_part.new.disk, c.write_part.new.piece) _ _ c.write_part-2.result c.in_ok-write_part.ensures.gathers c.write_part-2.ensures.gathers)

pub returns-in_err-write_part-clause-gathers : goal.returns-in_err-write_part-clause-gathers
returns-in_err-write_part-clause-gathers g c =
    let one = escaped c.args.key.now ++ (9 ∷ []) in
    let two = escaped c.args.value.now ++ (10 ∷ []) in
    gathers_failed one _ (c.args.disk.now, c.args.piece.now) (c.write_part.new.disk, c.write_part.new.piece) _ _ (omega (arith, length-append one two, ap length (in_parts c.args.key.now c.args.value.now))) c.in_err-write_part.ensures.gathers
