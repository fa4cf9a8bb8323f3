use Rattle.std.proofs.Common.{◌∙◌, ℕ, ◌+◌, ◌-◌, List, take, drop, length, sym, ap, subst, arith}
use Rattle.std.specs.Prelude.{IfSome, IsNone, nat_lt}
use Rattle.std.proofs.lemmas.List.{take_rest}
use Rattle.base_bytes.specs.declared.limits.TheConstants.{SCRIPT_LIMIT}
use Rattle.db_script.specs.Fields.{EndsAt, EndsNowhere}
use Rattle.db_script.specs.Held.{held_in}
use Rattle.db_script.specs.Reading.{script_state}
use Rattle.db_script.proofs.GatherLemmas.{gathered}
use Rattle.db_script.proofs.script.Script.is_gathered.Goals as goal

pub returns : goal.returns
returns c =
    let same = c.held-held.ensures in
    let held = held_in c.args.self.now.buffer in
    let rest = ap (λ (l : List ℕ). take (length l - c.args.seen) (drop c.args.seen l)) same ∙ take_rest held c.args.seen in
    c.is_some.ensures ∙ gathered (script_state c.args.self.now) c.args.seen c.find.result c.if-self.false
    (ap (λ (l : List ℕ). nat_lt SCRIPT_LIMIT (c.args.self.now.size + length l)) (sym same) ∙ grind (arith, c.if-self-held-gt-SCRIPT_LIMIT.false)) c.requires.free
    (subst (λ (l : List ℕ). IfSome c.find.result (λ at. EndsAt 10 l at)) rest c.find.ensures.some)
    (subst (λ (l : List ℕ). IsNone c.find.result → EndsNowhere 10 l) rest c.find.ensures.none)
