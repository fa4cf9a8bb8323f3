use Rattle.std.proofs.Common.{◌≡◌, ◌≤◌, ◌+◌, ◌++◌, ℕ, List, length, take, get_or, sym, ◌∙◌, ap, arith}
use Rattle.std.proofs.lemmas.List.{take-append-le, length-take-le}
use Rattle.std.proofs.Math.Seq.{take-append-add}
use Rattle.base_bytes.specs.Escapes.{escaped_byte}
use Rattle.base_bytes.proofs.EscapeLemmas.{escaped_more}
use Rattle.base_bytes.proofs.escapes.escape_into.Goals as goal

-- the bytes up to a place, and then those that were written
joined : (at count : ℕ) (old got post : List ℕ) → at ≤ length old → count ≤ length got → take (at + count) (take at old ++ (got ++ post)) ≡ take at old ++ take count got
joined at count old got post fits within =
    let long : length (take at old) ≡ at = length-take-le at old fits in
    ap (λ (n : ℕ). take (n + count) (take at old ++ (got ++ post))) (sym long)
    ∙ take-append-add (take at old) (got ++ post) count
    ∙ ap (λ (l : List ℕ). take at old ++ l) (take-append-le count got post within)

pub loop-read-preserved : goal.loop-read-preserved
loop-read-preserved c =
    let room : c.put_escaped-written.result ≤ length c.put_escaped-written.new.into = omega arith in
    record {
      read = omega arith;
      written = omega arith;
      field = joined c.loop-read.written c.put_escaped-written.result c.loop-read.into c.put_escaped-written.new.into _ (omega arith) room
          ∙ ap (λ (l : List ℕ). take c.loop-read.written c.loop-read.into ++ l) c.put_escaped-written.ensures.written
          ∙ ap (λ (l : List ℕ). l ++ escaped_byte (get_or c.args.bytes.now c.loop-read.read 0)) c.loop-read.invariant.field
          ∙ sym (escaped_more c.loop-read.read c.args.bytes.now c.loop-read-test.true);
    }
