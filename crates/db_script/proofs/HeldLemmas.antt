-- The bytes of a buffer that are held, where others beside them change.
use Rattle.std.proofs.Common.{◌≡◌, ◌∙◌, ℕ, ◌+◌, ◌-◌, ◌<◌, ◌≤◌, List, [], ◌∷◌, ◌++◌, Some, Ok, length, take, drop, refl, sym, ap, arith, append_assoc, length-append}
use Rattle.std.proofs.lemmas.List.{take-append-drop, take-append-le, drop-append-le, length-take-le, length-drop, drop_at, drop-drop, drop-take, take-take, take_all, drop_all}
use Rattle.std.proofs.Math.Seq.{take-append-add}
use Rattle.base_devices.specs.Causes.{HasCause}
use Rattle.base_source.specs.SourceCalls.{SourceState, Takes, left_behind}
use Rattle.db_script.specs.Buffers.{IsWithin, command_in, part_of}
use Rattle.db_script.specs.Lines.{show, get, set, delete}
use Rattle.db_script.specs.Held.{ReadsMore}
use Rattle.db_script.specs.declared.form.Span.{Span}
use Rattle.db_script.specs.declared.form.Form.{Form}
use Rattle.db_script.specs.declared.form.Form.TheVariants.{Begin, Commit, Abort, Show, Get, Set, Delete}
use Rattle.db_script.proofs.PartLemmas.{part_before}

-- what is held between two offsets
abbrev pub between : ℕ → ℕ → List ℕ → List ℕ
between at end xs = take (end - at) (drop at xs)

pub length_between : (at end : ℕ) (xs : List ℕ) → at ≤ end → end ≤ length xs → length (between at end xs) ≡ end - at
length_between at end xs ordered within = length-take-le (end - at) (drop at xs) (omega (arith, length-drop at xs, ordered, within))

-- as many bytes in the place of others
pub length_mid : (at size : ℕ) (xs new : List ℕ) → at + size ≤ length xs → length new ≡ size → length (take at xs ++ (new ++ drop size (drop at xs))) ≡ length xs
length_mid at size xs new fits same =
    length-append (take at xs) (new ++ drop size (drop at xs)) ∙ ap (λ (n : ℕ). n + length (new ++ drop size (drop at xs))) (length-take-le at xs (omega (arith, fits)))
    ∙ ap (λ (n : ℕ). at + n) (length-append new (drop size (drop at xs))) ∙ omega (arith, same, fits, length-drop size (drop at xs), length-drop at xs)

-- copied to the front of another buffer
pub copied_front : (at end : ℕ) (xs copy : List ℕ) → at ≤ end → end ≤ length xs → take (length (between at end xs)) copy ≡ between at end xs → between 0 (end - at) copy ≡ between at end xs
copied_front at end xs copy ordered within same =
    ap (λ (n : ℕ). take n copy) (omega (arith, length_between at end xs ordered within)) ∙ same

-- a line is taken off the front
pub taken_front : (at end size text : ℕ) (xs new : List ℕ) → text ≤ size → size ≤ end - at → at ≤ end → end ≤ length xs → length new ≡ text
    → between (at + size) end (take at xs ++ (new ++ drop text (drop at xs))) ≡ drop size (between at end xs)
taken_front at end size text xs new fits within ordered end_within same =
    let post = drop text (drop at xs) in
    ap (take (end - (at + size)))
    (sym (drop-drop size at (take at xs ++ (new ++ post)))
    ∙ ap (drop size) (drop_at (take at xs) (new ++ post) at (length-take-le at xs (omega (arith, ordered, end_within))))
    ∙ ap (λ (n : ℕ). drop n (new ++ post)) (omega (arith, fits))
    ∙ sym (drop-drop (size - text) text (new ++ post))
    ∙ ap (drop (size - text)) (drop_at new post text same)
    ∙ drop-drop (size - text) text (drop at xs)
    ∙ ap (λ (n : ℕ). drop n (drop at xs)) (omega (arith, fits)))
    ∙ ap (λ (n : ℕ). take n (drop size (drop at xs))) (omega (arith, within))
    ∙ sym (drop-take size (end - at - size) (drop at xs))
    ∙ ap (λ (n : ℕ). drop size (take n (drop at xs))) (omega (arith, within))

part_front : (text rest : List ℕ) (span : Span) → span.start ≤ span.end → span.end ≤ length text → part_of (text ++ rest) span ≡ part_of text span
part_front text rest span ordered ends = part_before text (text ++ rest) (length text) span (take-append-le (length text) text rest (omega arith)) ordered ends

-- what the fields at the front are does not hang on what follows
command_front : (text rest : List ℕ) (form : Form) → IsWithin 0 (length text) form → command_in (text ++ rest) form ≡ command_in text form
command_front text rest Begin within = refl
command_front text rest Commit within = refl
command_front text rest Abort within = refl
command_front text rest (Show p) within = ap show (part_front text rest p within.1 within.2)
command_front text rest (Get k) within = ap get (part_front text rest k within.1 within.2)
command_front text rest (Delete k) within = ap delete (part_front text rest k within.1 within.2)
command_front text rest (Set k v) within =
    ap (λ (x : List ℕ). set x (part_of (text ++ rest) v)) (part_front text rest k within.0.1 (omega (arith, within.0.2, within.1.1, within.1.2)))
    ∙ ap (λ (x : List ℕ). set (part_of text k) x) (part_front text rest v within.1.1 within.1.2)

pub command_at : (at : ℕ) (xs text rest : List ℕ) (form : Form) → at ≤ length xs → IsWithin 0 (length text) form → command_in (drop at (take at xs ++ (text ++ rest))) form ≡ command_in text form
command_at at xs text rest form fits within =
    ap (λ (l : List ℕ). command_in l form) (drop_at (take at xs) (text ++ rest) at (length-take-le at xs fits)) ∙ command_front text rest form within

-- the text of a line at the front
pub front_text : (at end text : ℕ) (xs : List ℕ) → text ≤ end - at → take text (between at end xs) ≡ take text (drop at xs)
front_text at end text xs fits = take-take text (end - at) (drop at xs) fits

-- ---- reading

-- bytes that are read behind those that are held
pub read_behind : (at end count : ℕ) (xs into rest : List ℕ) → at ≤ end → end ≤ length xs → count ≤ length into
    → between at (end + count) (take end xs ++ (into ++ rest)) ≡ between at end xs ++ take count into
read_behind at end count xs into rest ordered within few =
    let held = between at end xs in
    let size : length held ≡ end - at = length_between at end xs ordered within in
    ap (take (end + count - at)) (drop-append-le at (take end xs) (into ++ rest) (omega (arith, length-take-le end xs within, ordered))
    ∙ ap (λ (l : List ℕ). l ++ (into ++ rest)) (ap (λ (n : ℕ). drop at (take n xs)) (omega (arith, ordered)) ∙ drop-take at (end - at) xs))
    ∙ ap (λ (n : ℕ). take n (held ++ (into ++ rest))) (omega (arith, ordered, size))
    ∙ take-append-add held (into ++ rest) count
    ∙ ap (λ (l : List ℕ). held ++ l) (take-append-le count into rest few)

none_left : (left : List ℕ) (count : ℕ) → (0 < length left → 0 < count) → count ≡ 0 → left ≡ []
none_left [] count some none = refl
none_left (x ∷ left) count some none = absurd (omega (arith, some (omega arith), none))

drop_nothing : (n : ℕ) → drop {A = ℕ} n [] ≡ []
drop_nothing n = drop_all n [] (omega arith)

pub reads_more : {E : Type 0} (held now into : List ℕ) (most count : ℕ) (a b : SourceState) → now ≡ held ++ take count into → 0 < length into → count ≤ length into → count ≤ most
    → ((left : List ℕ) → a.left ≡ Some left → Takes left into count) → b.left ≡ left_behind count a.left → HasCause {E = E} a.faults b.faults (Ok count) → ReadsMore {E = E} (λ _. Unit {0}) held now most a b (Ok count)
reads_more held now into most count a b is room few within takes taken cause = record {
  front = ap (take (length held)) is ∙ take-append-le (length held) held (take count into) (omega arith) ∙ take_all (length held) held (omega arith);
  size = (ap length is ∙ length-append held (take count into) ∙ ap (λ (n : ℕ). length held + n) (length-take-le count into few), within);
  comes = λ left was. let t = takes left was in (
    drop count left,
    taken ∙ ap (left_behind count) was,
    record {
      bytes = ap (λ (l : List ℕ). l ++ drop count left) (is ∙ ap (λ (l : List ℕ). held ++ l) t.bytes) ∙ append_assoc held (take count left) (drop count left) ∙ ap (λ (l : List ℕ). held ++ l) (take-append-drop count left);
      none = λ none. ap (drop count) (none_left left count (t.some room) none) ∙ drop_nothing count;
    },
  );
  failed = tt;
  cause = record { later = cause.later; rose = tt; stood = tt; kept = cause.kept };
}
