use Rattle.std.proofs.Common.{◌∙◌, inl, inr, arith}
use Rattle.skip_change.proofs.Spotted.{before_slots, found_slots, past_same, past_before}
use Rattle.skip_change.proofs.spot.pointer_past.Goals as goal

pub pointer_at-requires-clause-there : goal.pointer_at-requires-clause-there
pointer_at-requires-clause-there c = (before_slots c.args.bytes.now c.requires.spot.0 c.args.spot.now c.requires.spot.1 c.args.level c.requires.high).0

pub pointer_at-requires-clause-slot : goal.pointer_at-requires-clause-slot
pointer_at-requires-clause-slot c = (before_slots c.args.bytes.now c.requires.spot.0 c.args.spot.now c.requires.spot.1 c.args.level c.requires.high).1

pub returns-then-spot-eq0 : goal.returns-then-spot-eq0
returns-then-spot-eq0 c = λ key s.
    c.pointer_at.ensures ∙ past_before c.args.bytes.now key c.args.spot.now s c.args.level c.requires.low c.requires.high (inl c.if-spot-eq0.true)

pub level_at-requires : goal.level_at-requires
level_at-requires c = record { there = found_slots c.args.bytes.now c.requires.spot.0 c.args.spot.now c.requires.spot.1 (λ e. c.if-spot-eq0.false e) }

pub pointer_at-requires-then-level_at-level-clause-there : goal.pointer_at-requires-then-level_at-level-clause-there
pointer_at-requires-then-level_at-level-clause-there c = (before_slots c.args.bytes.now c.requires.spot.0 c.args.spot.now c.requires.spot.1 c.args.level c.requires.high).0

pub pointer_at-requires-then-level_at-level-clause-slot : goal.pointer_at-requires-then-level_at-level-clause-slot
pointer_at-requires-then-level_at-level-clause-slot c = (before_slots c.args.bytes.now c.requires.spot.0 c.args.spot.now c.requires.spot.1 c.args.level c.requires.high).1

pub returns-then-level_at-level : goal.returns-then-level_at-level
returns-then-level_at-level c = λ key s.
    c.pointer_at-then-level_at-level.ensures ∙ past_before c.args.bytes.now key c.args.spot.now s c.args.level c.requires.low c.requires.high (inr (omega (arith, c.level_at.ensures, c.if-level_at-level.true)))

pub pointer_at-requires-2-clause-there : goal.pointer_at-requires-2-clause-there
pointer_at-requires-2-clause-there c = found_slots c.args.bytes.now c.requires.spot.0 c.args.spot.now c.requires.spot.1 (λ e. c.if-spot-eq0.false e)

pub returns : goal.returns
returns c = λ key s.
    c.pointer_at-2.ensures ∙ past_same c.args.bytes.now key c.args.spot.now s c.args.level c.requires.low c.requires.high (λ e. c.if-spot-eq0.false e) (omega (arith, c.level_at.ensures, c.if-level_at-level.false))
