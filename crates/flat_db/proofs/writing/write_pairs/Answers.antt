use Rattle.std.proofs.Common.{◌≡◌, ◌≤◌, ◌+◌, ◌++◌, ℕ, List, Result, Ok, Err, length, take, sym, ap, subst, arith}
use Rattle.base_devices.specs.declared.disk.Failed.{Failed}
use Rattle.flat_db.specs.FlatText.{canonical_text}
use Rattle.flat_db.specs.Entries.{pairs_of}
use Rattle.flat_db.specs.Writing.{Gathers}
use Rattle.flat_db.proofs.Adding.{Adds, adds_then, adds_failed, gathers_then, gathers_failed}
use Rattle.flat_db.proofs.Sizes.{text_more, text_part}
use Rattle.flat_db.proofs.writing.write_pairs.Goals as goal

-- where a part fails that is no longer than the whole, the whole does not fit
failed_whole : {D U : Type 0} (part same whole : List ℕ) (a b : D × List ℕ) (e : Failed) (result : Result U Failed) → Gathers {T = Unit {0}} part a b (Err e) → same ≡ part → length same ≤ length whole → Gathers whole a b result
failed_whole part same whole a b e result failed is within = gathers_failed part whole a b e result (omega (arith, ap length is, within)) failed

pub returns-in_err-write_entry-clause-adds : goal.returns-in_err-write_entry-clause-adds
returns-in_err-write_entry-clause-adds g c =
    let inv = c.loop-entry.invariant in
    let on = g.met.D.Disk.rest_goes_on in
    adds_failed _ _ _ _ _ _ c.in_err-write_entry.field-0.0 c.from_residual.result c.from_residual.ensures.0
    (adds_then _ _ _ c.args.piece.now c.loop-entry.piece c.write_entry.new.piece (canonical_text (pairs_of c.args.bytes.now (take c.loop-entry.entry-index c.args.entries.now))) _ (Err c.in_err-write_entry.field-0.0) (on _ _ inv.rest) (on _ _ c.write_entry.ensures.rest) inv.adds c.in_err-write_entry.ensures.adds)

pub returns-in_err-write_entry-clause-gathers : goal.returns-in_err-write_entry-clause-gathers
returns-in_err-write_entry-clause-gathers g c =
    let bytes = c.args.bytes.now in
    let entries = c.args.entries.now in
    let n = c.loop-entry.entry-index in
    let so_far = canonical_text (pairs_of bytes (take n entries)) in
    failed_whole _ (canonical_text (pairs_of bytes (take (n + 1) entries))) (canonical_text (pairs_of bytes entries)) (c.args.disk.now, c.args.piece.now) (c.write_entry.new.disk, c.write_entry.new.piece) c.in_err-write_entry.field-0.0 c.from_residual.result
    (gathers_then so_far _ (c.args.disk.now, c.args.piece.now) (c.loop-entry.disk, c.loop-entry.piece) (c.write_entry.new.disk, c.write_entry.new.piece) tt (Err c.in_err-write_entry.field-0.0) c.loop-entry.invariant.gathers c.in_err-write_entry.ensures.gathers)
    (text_more bytes entries n _ c.loop-entry-test.true) (omega (arith, text_part bytes entries (n + 1)))

pub loop-entry-preserved : goal.loop-entry-preserved
loop-entry-preserved g c =
    let inv = c.loop-entry.invariant in
    let on = g.met.D.Disk.rest_goes_on in
    let bytes = c.args.bytes.now in
    let entries = c.args.entries.now in
    let n = c.loop-entry.entry-index in
    let so_far = canonical_text (pairs_of bytes (take n entries)) in
    let is = sym (text_more bytes entries n _ c.loop-entry-test.true) in
    record {
      adds = subst (λ (l : List ℕ). Adds (g.D.Disk.state c.args.disk.now) (g.D.Disk.state c.write_entry.new.disk) c.args.piece.now c.write_entry.new.piece l) is
          (adds_then _ _ _ c.args.piece.now c.loop-entry.piece c.write_entry.new.piece so_far _ _ (on _ _ inv.rest) (on _ _ c.write_entry.ensures.rest) inv.adds c.in_ok-write_entry.ensures.adds);
      gathers = subst (λ (l : List ℕ). Gathers {T = Unit {0}} {E = Failed} l (c.args.disk.now, c.args.piece.now) (c.write_entry.new.disk, c.write_entry.new.piece) (Ok tt)) is
          (gathers_then so_far _ (c.args.disk.now, c.args.piece.now) (c.loop-entry.disk, c.loop-entry.piece) (c.write_entry.new.disk, c.write_entry.new.piece) tt (Ok tt) inv.gathers c.in_ok-write_entry.ensures.gathers);
      rest = g.met.D.Disk.rest_then _ _ _ inv.rest c.write_entry.ensures.rest;
    }
