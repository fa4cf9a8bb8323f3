use Rattle.std.proofs.Common.{◌≡◌, ◌≤◌, ◌+◌, ℕ, List, length, length-take, take, drop, ap, ◌∙◌, arith}
use Rattle.std.proofs.lemmas.List.{take-append-le, length-take-le}
use Rattle.mail_scan.proofs.FactLemmas.{piece_more}
use Rattle.mail_scan.proofs.scanning.scan.Goals as goal

pub loop-piece-preserved : goal.loop-piece-preserved
loop-piece-preserved g c =
    let inv = c.loop-piece.invariant in
    let into : List ℕ = c.read.new.into in
    let count : ℕ = c.in_ok-count.count in
    let bound : count ≤ length into = c.in_ok-count.ensures.bound in
    let read = take-append-le count into (drop c.min-room.result c.loop-piece.piece) bound in
    let size : c.add.new.self.size ≡ c.loop-piece.facts.size + count = c.add.ensures.size ∙ ap (λ p. c.loop-piece.facts.size + length p) read ∙ ap (λ n. c.loop-piece.facts.size + n) (length-take-le count into bound) in
    let room : length into ≡ length (take c.min-room.result c.loop-piece.piece) = c.read.auto.into in
    record {
      within = omega (arith, size, bound, room, length-take c.min-room.result c.loop-piece.piece, c.min-room.ensures, c.size-in-loop-piece.ensures);
      knows = λ file has.
          let reads = rw c.size-in-loop-piece-2.ensures at c.in_ok-count.ensures.bytes file (rw inv.folder has) in
          let known = inv.knows file has in
          piece_more file.bytes into _ count c.loop-piece.facts c.add.new.self known.0 known.1 reads read c.add.ensures.knows size;
      folder = c.read.ensures.folder ∙ inv.folder;
      faults = c.in_ok-count.ensures.cause.kept ∙ inv.faults;
      rest = g.met.S.Spool.rest_then _ _ _ inv.rest c.read.ensures.rest;
    }
