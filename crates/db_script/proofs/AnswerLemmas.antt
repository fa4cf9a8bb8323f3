-- The answer of a script, over what was read for it before.
use Rattle.std.proofs.Common.{◌≡◌, ◌∙◌, inr, ℕ, ◌+◌, List, Option, Some, None, Result, Ok, Err, length, sym, ap, subst, arith}
use Rattle.std.specs.Prelude.{IfOk, IfErr, IfSome}
use Rattle.base_devices.specs.Causes.{FaultHasCause}
use Rattle.base_source.specs.SourceCalls.{SourceState}
use Rattle.db_script.specs.Held.{IsInputFault}
use Rattle.db_script.specs.Lines.{Command, lines_of}
use Rattle.db_script.specs.Reading.{ScriptState, SameLines, to_come, IsFirst, KeepsScript, AnswersLine, Refuses, ReadsLine}
use Rattle.db_script.specs.declared.script.ScriptFault.{ScriptFault}
use Rattle.db_script.specs.declared.script.ScriptFault.TheVariants.{TooLong, BadLine, NoMemory, InputFault}

refuses_from : (P Q : List ℕ → Type 0) (s t u : ScriptState) (script seen rest : List ℕ) → SameLines s t → seen ≡ script → ((line : List ℕ) → P line → Q line) → Refuses P t u seen rest → Refuses Q s u script rest
refuses_from P Q s t u script seen rest counts same weaker is = record {
  stays = is.stays ∙ same;
  counts = (is.counts.0 ∙ counts.0, is.counts.1 ∙ counts.1);
  line = is.line;
  first = subst (λ (l : List ℕ). IsFirst l is.line) same is.first;
  why = weaker is.line is.why;
}

answers_from : {T : Type 0} (said : T → Command) (s t u : ScriptState) (script seen rest : List ℕ) (result : Result (Option T) ScriptFault) → SameLines s t → seen ≡ script → AnswersLine said t u seen rest result → AnswersLine said s u script rest result
answers_from said s t u script seen rest (Ok None) counts same is = (sym same ∙ is.0, is.1, (is.2.0 ∙ counts.0, is.2.1 ∙ counts.1))
answers_from said s t u script seen rest (Ok (Some line)) counts same is = record {
  line = is.line;
  is = ap lines_of (sym same) ∙ is.is;
  asks = is.asks;
  lines = is.lines ∙ ap (λ (n : ℕ). n + 1) counts.0;
  size = is.size ∙ ap (λ (n : ℕ). n + length is.line) counts.1;
  within = is.within;
}
answers_from said s t u script seen rest (Err TooLong) counts same is =
    refuses_from _ _ s t u script seen rest counts same (λ line over. omega (arith, over, counts.1)) is
answers_from said s t u script seen rest (Err (BadLine number)) counts same is =
    refuses_from _ _ s t u script seen rest counts same (λ line why. (omega (arith, why.0, counts.1), why.1, why.2 ∙ ap (λ (n : ℕ). n + 1) counts.0)) is
answers_from said s t u script seen rest (Err NoMemory) counts same is = (is.0 ∙ same, (is.1.0 ∙ counts.0, is.1.1 ∙ counts.1))
answers_from said s t u script seen rest (Err InputFault) counts same is = (is.0 ∙ same, (is.1.0 ∙ counts.0, is.1.1 ∙ counts.1), is.2)

cause_of : {T : Type 0} (a b : ℕ) (result : Result T ScriptFault) → b ≡ a → IfErr result (λ fault. IsInputFault fault → ⊥) → FaultHasCause IsInputFault a b result
cause_of a b (Ok x) same other = record { later = omega (arith, same); rose = tt; stood = tt; kept = same }
cause_of a b (Err fault) same other = record { later = omega (arith, same); rose = λ is. absurd (other is); stood = inr same; kept = tt }

counts_from : {T : Type 0} (s t u : ScriptState) (result : Result (Option T) ScriptFault) → SameLines s t → IfOk result (λ o. IfSome o (λ _. u.lines ≡ t.lines + 1)) → IfOk result (λ o. IfSome o (λ _. u.lines ≡ s.lines + 1))
counts_from s t u (Ok None) same is = tt
counts_from s t u (Ok (Some x)) same is = is ∙ ap (λ (n : ℕ). n + 1) same.0
counts_from s t u (Err fault) same is = tt

pub reads_then : {T : Type 0} (said : T → Command) (s t u : ScriptState) (a b : SourceState) (result : Result (Option T) ScriptFault) → KeepsScript s t a b → b.faults ≡ a.faults
    → ((left : List ℕ) → AnswersLine said t u (to_come t left) (to_come u left) result) → IfOk result (λ o. IfSome o (λ _. u.lines ≡ t.lines + 1)) → IfErr result (λ fault. IsInputFault fault → ⊥) → ReadsLine said s u a b result
reads_then said s t u a b result keeps same answers counts refused = record {
  answers = λ left was. let k = keeps.keeps left was in (k.0, k.1, answers_from said s t u (to_come s left) (to_come t k.0) (to_come u k.0) result keeps.counts k.2 (answers k.0));
  counts = counts_from s t u result keeps.counts counts;
  cause = cause_of a.faults b.faults result same refused;
}
