use Rattle.std.proofs.Common.{◌≡◌, ◌≤◌, List, ℕ, length, take, sym, ◌∙◌, ap, arith}
use Rattle.std.specs.Prelude.{is_some}
use Rattle.std.proofs.lemmas.List.{take_all}
use Rattle.base_devices.proofs.reading.fill.Goals as goal

whole : (at : ℕ) (into b : List ℕ) → length into ≤ at → at ≤ length into → length b ≡ length into → take at into ≡ take at b → into ≡ b
whole at into b over under same read = sym (take_all at into over) ∙ read ∙ take_all at b (omega arith)

pub returns-clause-bytes : goal.returns-clause-bytes
returns-clause-bytes g c b is =
    let there = c.requires (ap is_some is) in
    let same : there.0 ≡ b = cc (there.1, is) in
    whole c.loop-at.at c.loop-at.into b c.loop-at-test.false c.loop-at.invariant.in_range (omega (arith, ap length same, there.2, c.loop-at.auto.into)) (c.loop-at.invariant.read b (c.loop-at.invariant.stays.main.reads ∙ is))
