use Rattle.std.proofs.Common.{◌≡◌, ◌<◌, ◌≤◌, ◌⊎◌, ⊎_elim, ◌+◌, ℕ, zero, suc, List, length, take, ap, arith}
use Rattle.std.proofs.lemmas.List.{length-take-le}
use Rattle.base_bytes.specs.Escapes.{escaped}
use Rattle.base_bytes.proofs.piece.Piece.add_escaped.Goals as goal

-- where there is room for two bytes more, one is read
progress : (field into : List ℕ) (read written : ℕ) → 0 < length field → 2 ≤ length into → written ≤ length into → take written into ≡ escaped (take read field) → (read ≡ length field) ⊎ (length into < written + 2) → 0 < read
unfolding escaped
progress field into zero written some room within is far = ⊎_elim (λ all. omega (arith, all, some)) (λ full. absurd (omega (arith, full, room, ap length is, length-take-le written into within))) far
progress field into (suc read) written some room within is far = omega arith

pub returns-clause-bound : goal.returns-clause-bound
returns-clause-bound c =
    let escaped = c.escape_into-escaped in
    let held = ap length c.self.view_is in
    let used = length-take-le c.self.inside.used c.self.inside.bytes.items (omega arith) in
    let room : 2 ≤ length escaped.new.into = omega (arith, held, used, c.requires.room) in
    (progress c.args.field.now escaped.new.into escaped.result.read escaped.result.written c.requires.some room escaped.ensures.written escaped.ensures.field escaped.ensures.stops_for_room, escaped.ensures.read)
