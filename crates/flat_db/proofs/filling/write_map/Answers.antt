use Rattle.std.proofs.Common.{◌≡◌, ℕ, ◌∷◌, ◌++◌, [], List, Err, length, refl, sym, ap, subst, ◌∙◌, arith}
use Rattle.std.proofs.lemmas.List.{append-nil}
use Rattle.base_bytes.specs.OrderedMap.{Map, pairs_from}
use Rattle.base_devices.specs.declared.disk.Failed.{Failed}
use Rattle.db_fill.proofs.WalkSteps.{fewer, none_left, walks_from, walks_on, walks_out}
use Rattle.flat_db.specs.FlatText.{canonical_text, pair_line}
use Rattle.flat_db.proofs.Adding.{Adds, adds_none, adds_then, adds_failed}
use Rattle.flat_db.proofs.Sizes.{text_then}
use Rattle.flat_db.proofs.filling.write_map.Goals as goal

-- a line more
line_more : (m : Map) (p : List ℕ × List ℕ) → canonical_text m ++ pair_line p.0 p.1 ≡ canonical_text (m ++ p ∷ [])
line_more m p = ap (λ (l : List ℕ). canonical_text m ++ l) (sym (append-nil (pair_line p.0 p.1))) ∙ sym (text_then m (p ∷ []))

pub loop-init : goal.loop-init
loop-init g c =
    let seen = (g.B.Db.state c.args.from.now).seen in
    record {
      done = [];
      left = pairs_from seen [];
      at = c.walk_from-cursor.ensures;
      walks = walks_from seen;
      few = omega (arith, fewer seen);
      adds = adds_none (g.D.Disk.state c.args.to.now) c.args.piece.now (g.met.D.Disk.is_moment _);
      rest = g.met.D.Disk.rest_same _;
    }

pub loop-preserved : goal.loop-preserved
loop-preserved g c =
    let inv = c.loop.invariant in
    let on = g.met.D.Disk.rest_goes_on in
    let seen = (g.B.Db.state c.args.from.now).seen in
    let at = c.in-Some.ensures inv.left inv.at in
    let p : List ℕ × List ℕ = (c.in-Some.step.pair.key.now, c.in-Some.step.pair.value.now) in
    record {
      done = inv.done ++ p ∷ [];
      left = at.0;
      at = at.2;
      walks = walks_on seen inv.done inv.left at.0 p inv.walks at.1;
      few = omega (arith, inv.few, ap length at.1);
      adds = subst (λ (l : List ℕ). Adds (g.D.Disk.state c.args.to.now) (g.D.Disk.state c.write_line.new.disk) c.args.piece.now c.write_line.new.piece l) (line_more inv.done p)
          (adds_then _ _ _ c.args.piece.now c.loop.piece c.write_line.new.piece (canonical_text inv.done) (pair_line p.0 p.1) _ (on _ _ inv.rest) (on _ _ c.write_line.ensures.rest) inv.adds c.in_default-write_line.ensures.adds);
      rest = g.met.D.Disk.rest_then _ _ _ inv.rest c.write_line.ensures.rest;
    }

pub returns-in-Err-clause-adds : goal.returns-in-Err-clause-adds
returns-in-Err-clause-adds g c =
    let inv = c.loop.invariant in
    let on = g.met.D.Disk.rest_goes_on in
    adds_failed {U = Unit {0}} {F = Failed} _ _ _ _ _ _ c.in-Err.fault (Err c.in-Err.fault) refl
    (adds_then _ _ _ c.args.piece.now c.loop.piece c.write_line.new.piece (canonical_text inv.done) _ (Err c.in-Err.fault) (on _ _ inv.rest) (on _ _ c.write_line.ensures.rest) inv.adds c.in-Err.ensures.adds)

pub returns-in_default-clause-adds : goal.returns-in_default-clause-adds
returns-in_default-clause-adds g c =
    let inv = c.loop.invariant in
    let seen = (g.B.Db.state c.args.from.now).seen in
    subst (λ (m : Map). Adds (g.D.Disk.state c.args.to.now) (g.D.Disk.state c.loop.to) c.args.piece.now c.loop.piece (canonical_text m)) (walks_out seen inv.done inv.left inv.walks (c.in_default.ensures inv.left inv.at)) inv.adds

pub returns-after-loop-clause-adds : goal.returns-after-loop-clause-adds
returns-after-loop-clause-adds g c =
    let inv = c.loop.invariant in
    let seen = (g.B.Db.state c.args.from.now).seen in
    subst (λ (m : Map). Adds (g.D.Disk.state c.args.to.now) (g.D.Disk.state c.loop.to) c.args.piece.now c.loop.piece (canonical_text m)) (walks_out seen inv.done inv.left inv.walks (none_left seen inv.left c.loop.counter (length seen) inv.few (omega (arith, c.count-end.ensures.count)))) inv.adds
