use Rattle.std.proofs.Common.{◌≡◌, ◌∙◌, ◌-◌, ◌≤◌, ℕ, Option, Some, None, List, sym, ap, refl, length, arith, take, drop, ◌++◌}
use Rattle.std.specs.Prelude.{IsSome}
use Rattle.std.proofs.lemmas.List.{drop_at, take-append-le, length-take-le, drop-drop}
use borrow.Rule.Slice.PartMut.{put_mid, post_of}
use Rattle.base_bytes.specs.Escapes.{Spells}
use Rattle.db_script.specs.Fields.{field_bytes}
use Rattle.db_script.proofs.FieldLemmas.{spelled, spells}
use Rattle.db_script.proofs.form.unescape_part.Goals as goal

some_bytes : (field : List ℕ) → IsSome (field_bytes field) → (bytes : List ℕ) × Spells bytes field
some_bytes field some = by (field_bytes field) refl some
  where
    by : (o : Option (List ℕ)) → field_bytes field ≡ o → IsSome o → (bytes : List ℕ) × Spells bytes field
    by None is some = absurd (cc some)
    by (Some bytes) is some = (bytes, spells field bytes is)

pub unescape-size-requires : goal.unescape-size-requires
unescape-size-requires c = some_bytes _ c.requires.spelled

front_part : (at k size : ℕ) (text new : List ℕ) → at ≤ length text → size ≤ length new → take size (drop at (put_mid at k text new)) ≡ take size new
front_part at k size text new fits within =
    ap (take size) (drop_at (take at text) (new ++ post_of at k text) at (length-take-le at text fits)) ∙ take-append-le size new (post_of at k text) within

behind_part : (at end : ℕ) (text new : List ℕ) → at ≤ end → end ≤ length text → length new ≡ end - at → drop end (put_mid at (end - at) text new) ≡ drop end text
behind_part at end text new ordered fits same =
    let post = post_of at (end - at) text in
    ap (λ (n : ℕ). drop n (put_mid at (end - at) text new)) (omega (arith, ordered))
    ∙ sym (drop-drop (end - at) at (put_mid at (end - at) text new))
    ∙ ap (drop (end - at)) (drop_at (take at text) (new ++ post) at (length-take-le at text (omega (arith, ordered, fits))))
    ∙ drop_at new post (end - at) same
    ∙ drop-drop (end - at) at text
    ∙ ap (λ (n : ℕ). drop n text) (omega (arith, ordered))

pub returns-clause-bytes : goal.returns-clause-bytes
returns-clause-bytes c =
    let part = some_bytes _ c.requires.spelled in
    let size = c.unescape-size.result in
    let at = c.args.span.start in
    spelled part.0 _ part.1
    ∙ ap Some (sym (c.unescape-size.ensures.bytes part.0 part.1)
    ∙ sym (front_part at (c.args.span.end - at) size c.args.buffer.now c.unescape-size.new.field (omega (arith, c.requires.within.1, c.requires.within.2)) (omega arith))
    ∙ ap (λ (n : ℕ). take n (drop at (put_mid at (c.args.span.end - at) c.args.buffer.now c.unescape-size.new.field))) (omega arith))

pub returns-clause-behind : goal.returns-clause-behind
returns-clause-behind c = behind_part c.args.span.start c.args.span.end c.args.buffer.now c.unescape-size.new.field c.requires.within.1 c.requires.within.2 (omega arith)
