-- Parts of a buffer that a change elsewhere leaves as they were.
use Rattle.std.proofs.Common.{◌≡◌, ◌∙◌, ℕ, ◌-◌, ◌≤◌, List, take, drop, sym, ap, arith}
use Rattle.std.proofs.lemmas.List.{drop-drop, drop-take, take-take}
use Rattle.db_script.specs.Buffers.{part_of}
use Rattle.db_script.specs.declared.form.Span.{Span}

-- what is the same from an offset on is the same from a later one on
drop_later : (at next : ℕ) (xs ys : List ℕ) → at ≤ next → drop at xs ≡ drop at ys → drop next xs ≡ drop next ys
drop_later at next xs ys le same =
    ap (λ (n : ℕ). drop n xs) (omega arith) ∙ sym (drop-drop (next - at) at xs) ∙ ap (drop (next - at)) same ∙ drop-drop (next - at) at ys ∙ ap (λ (n : ℕ). drop n ys) (omega arith)

pub part_behind : (old new : List ℕ) (at : ℕ) (span : Span) → drop at new ≡ drop at old → at ≤ span.start → part_of new span ≡ part_of old span
part_behind old new at span same le = ap (take (span.end - span.start)) (drop_later at span.start new old le same)

pub part_before : (old new : List ℕ) (at : ℕ) (span : Span) → take at new ≡ take at old → span.start ≤ span.end → span.end ≤ at → part_of new span ≡ part_of old span
part_before old new at span same ordered ends =
    within new ∙ ap (λ (l : List ℕ). take (span.end - span.start) (drop span.start l)) same ∙ sym (within old)
  where
    within : (xs : List ℕ) → take (span.end - span.start) (drop span.start xs) ≡ take (span.end - span.start) (drop span.start (take at xs))
    within xs =
        sym (take-take (span.end - span.start) (at - span.start) (drop span.start xs) (omega (arith, ordered, ends)))
        ∙ ap (take (span.end - span.start)) (sym (drop-take span.start (at - span.start) xs) ∙ ap (λ (n : ℕ). drop span.start (take n xs)) (omega (arith, ordered, ends)))
