use Rattle.std.proofs.Common.{◌≡◌, ◌≤◌, ◌+◌, ℕ, List, ◌++◌, length, take, drop, sym, ◌∙◌, ap, arith}
use Rattle.std.proofs.lemmas.List.{take-append-le, length-take-le}
use Rattle.std.proofs.Math.Seq.{take-append-add, take-add}
use Rattle.base_devices.proofs.reading.read_piece.Goals as goal

-- the bytes up to a place, and then those that were read
joined : (at count : ℕ) (old got post b : List ℕ) → at ≤ length old → count ≤ length got → take count got ≡ take count (drop at b) → take at old ≡ take at b → take (at + count) (take at old ++ (got ++ post)) ≡ take (at + count) b
joined at count old got post b fits within read before =
    let long : length (take at old) ≡ at = length-take-le at old fits in
    ap (λ (n : ℕ). take (n + count) (take at old ++ (got ++ post))) (sym long)
    ∙ take-append-add (take at old) (got ++ post) count
    ∙ ap (λ (l : List ℕ). take at old ++ l) (take-append-le count got post within ∙ read)
    ∙ ap (λ (l : List ℕ). l ++ take count (drop at b)) before
    ∙ sym (take-add at count b)

pub returns-clause-bytes : goal.returns-clause-bytes
returns-clause-bytes g c b is before =
    joined c.args.at c.in_ok-count.count c.args.into.now c.read_at.new.into _ b (omega arith) c.in_ok-count.ensures.bound.0 (c.in_ok-count.ensures.bytes b is) before
