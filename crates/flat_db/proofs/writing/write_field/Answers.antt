use Rattle.std.proofs.Common.{◌≡◌, ◌≤◌, ◌+◌, ◌-◌, ◌++◌, [], ℕ, List, Ok, length, take, drop, refl, sym, ◌∙◌, ap, subst, append_assoc, length-append, arith}
use Rattle.std.proofs.lemmas.List.{take_all, take_rest, length-drop, append-nil}
use Rattle.base_bytes.specs.Escapes.{escaped}
use Rattle.base_devices.specs.declared.disk.Failed.{Failed}
use Rattle.flat_db.specs.Writing.{Gathers}
use Rattle.flat_db.proofs.Adding.{Adds, adds_none, adds_then, adds_more, part_more, part_longer}
use Rattle.flat_db.proofs.writing.write_field.Goals as goal

pub loop-at-init : goal.loop-at-init
unfolding escaped
loop-at-init g c = record {
  within = omega arith;
  adds = adds_none (g.D.Disk.state c.args.disk.now) c.args.piece.now (g.met.D.Disk.is_moment _);
  gathers = record { all = λ fits. (refl, sym (append-nil c.args.piece.now), refl) };
  rest = g.met.D.Disk.rest_same _;
}

pub loop-at-preserved : goal.loop-at-preserved
loop-at-preserved g c =
    let inv = c.loop-at.invariant in
    let on = g.met.D.Disk.rest_goes_on in
    let field = c.args.field.now in
    let at = c.loop-at.at in
    let count = c.add_field-at.result in
    let bound = c.add_field-at.ensures.bound in
    let within : at + count ≤ length field = omega (arith, bound.1, ap length (take_rest field at), length-drop at field) in
    let added = escaped (take count (take (length field - at) (drop at field))) in
    let whole : escaped (take at field) ++ added ≡ escaped (take (at + count) field) = part_more field at count within in
    let both : (escaped (take at field) ++ []) ++ added ≡ escaped (take (at + count) field) = ap (λ (l : List ℕ). l ++ added) (append-nil (escaped (take at field))) ∙ whole in
    record {
      within = within;
      adds = subst (λ (l : List ℕ). Adds (g.D.Disk.state c.args.disk.now) (g.D.Disk.state c.make_room.new.disk) c.args.piece.now c.add_field-at.new.piece l) both
          (adds_more (g.D.Disk.state c.args.disk.now) (g.D.Disk.state c.make_room.new.disk) c.args.piece.now c.make_room.new.piece c.add_field-at.new.piece (escaped (take at field) ++ []) added
          (adds_then _ _ _ c.args.piece.now c.loop-at.piece c.make_room.new.piece (escaped (take at field)) [] _ (on _ _ inv.rest) (on _ _ c.make_room.ensures.rest) inv.adds c.in_ok-make_room.ensures.adds)
          c.add_field-at.ensures.added);
      gathers = record {
        all = λ fits.
            let longer = part_longer field at count bound.0 within in
            let so_far = inv.gathers.all (omega (arith, fits, longer)) in
            let still = c.make_room.ensures.still (omega (arith, fits, longer, ap length so_far.1, length-append c.args.piece.now (escaped (take at field)))) in (
              still.0 ∙ so_far.0,
              c.add_field-at.ensures.added ∙ ap (λ (l : List ℕ). l ++ added) (still.1 ∙ so_far.1) ∙ append_assoc c.args.piece.now (escaped (take at field)) added ∙ ap (λ (l : List ℕ). c.args.piece.now ++ l) whole,
              refl,
            );
      };
      rest = g.met.D.Disk.rest_then _ _ _ inv.rest c.make_room.ensures.rest;
    }

pub returns-in_err-make_room-clause-gathers : goal.returns-in_err-make_room-clause-gathers
returns-in_err-make_room-clause-gathers g c = record {
  all = λ fits.
      let field = c.args.field.now in
      let at = c.loop-at.at in
      let rest : ℕ = length field - at in
      let longer = part_longer field at rest (omega arith) (omega arith) in
      let all = ap (λ (l : List ℕ). length (escaped l)) (take_all (at + rest) field (omega arith)) in
      let so_far = c.loop-at.invariant.gathers.all (omega (arith, fits, longer, all)) in
      let still = c.in_err-make_room.ensures.still (omega (arith, fits, longer, all, ap length so_far.1, length-append c.args.piece.now (escaped (take at field)))) in
      absurd (cc still.2);
}

pub returns-clause-gathers : goal.returns-clause-gathers
returns-clause-gathers g c =
    subst (λ (l : List ℕ). Gathers {T = Unit {0}} {E = Failed} (escaped l) (c.args.disk.now, c.args.piece.now) (c.loop-at.disk, c.loop-at.piece) (Ok tt)) (take_all c.loop-at.at c.args.field.now (omega arith)) c.loop-at.invariant.gathers
