-- What is known of a message behind one piece more, and at its end.
use Rattle.std.proofs.Common.{◌≡◌, ◌≢◌, ◌⊎◌, inl, inr, ℕ, ◌==◌, ◌+◌, ◌<◌, ◌≤◌, List, [], ◌++◌, take, drop, length, refl, sym, ap, subst, ◌∙◌, arith, append_assoc, length-drop, cond}
use Rattle.std.proofs.lemmas.List.{append-nil, drop_at, drop_all, take_all, take-append-drop}
use Rattle.std.proofs.lemmas.Bool.{cases_lt}
use Rattle.std.proofs.lemmas.List.Sums.{sum_by-append}
use Rattle.std.proofs.lemmas.Bool.Decides.{eqb_tells}
use Rattle.std.proofs.Math.Seq.{take-add}
use Rattle.base_devices.specs.SpoolCalls.{ReadsFrom}
use Rattle.mail_scan.specs.declared.header.HeaderState.{HeaderState}
use Rattle.mail_scan.specs.declared.header.HeaderState.TheVariants.{LineStart, Cr, InLine, Ended}
use Rattle.mail_scan.specs.declared.facts.Facts.{Facts}
use Rattle.mail_scan.specs.MessageText.{header_from, header_of, line_count}
use Rattle.mail_scan.specs.HeaderState.{header_rest}
use Rattle.mail_scan.specs.Facts.{KnowsFacts}

nothing_left : (state : HeaderState) → header_rest state [] ≡ []
unfolding header_from
nothing_left LineStart = refl
nothing_left Cr = refl
nothing_left InLine = refl
nothing_left Ended = refl

-- at the end of a message its header is known
pub header_is : (read : List ℕ) (facts : Facts) (knows : KnowsFacts read facts) → header_of read ≡ knows.header
header_is read facts knows =
    ap header_of (sym (append-nil read)) ∙ knows.reads_on [] ∙ ap (λ rest. knows.header ++ rest) (nothing_left facts.state) ∙ append-nil knows.header

pub body_is : (read : List ℕ) (facts : Facts) (knows : KnowsFacts read facts) → drop (length (header_of read)) read ≡ knows.body
body_is read facts knows =
    ap (λ h. drop (length h) read) (header_is read facts knows) ∙ ap (drop (length knows.header)) knows.whole ∙ drop_at knows.header knows.body (length knows.header) refl

-- the bytes of a message and of one piece more, by header and body
pub whole_more : (read header body piece : List ℕ) (count : ℕ) (state : HeaderState) → read ≡ header ++ body → (body ≡ []) ⊎ (state ≡ Ended) → (state ≡ Ended → count ≡ 0) → read ++ piece ≡ (header ++ take count piece) ++ (body ++ drop count piece)
whole_more read header body piece count state whole (inl none) ended =
    ap (λ r. r ++ piece) (whole ∙ ap (λ b. header ++ b) none ∙ append-nil header)
    ∙ ap (λ p. header ++ p) (sym (take-append-drop count piece))
    ∙ sym (append_assoc header (take count piece) (drop count piece))
    ∙ ap (λ b. (header ++ take count piece) ++ (b ++ drop count piece)) (sym none)
whole_more read header body piece count state whole (inr is) ended =
    ap (λ r. r ++ piece) whole ∙ append_assoc header body piece
    ∙ ap (λ h. h ++ (body ++ piece)) (sym (append-nil header))
    ∙ ap (λ n. (header ++ take n piece) ++ (body ++ drop n piece)) (sym (ended is))

-- a message has a body only behind its header
pub ended_more : (body piece : List ℕ) (count : ℕ) (old new : HeaderState) → (body ≡ []) ⊎ (old ≡ Ended) → (old ≡ Ended → new ≡ Ended) → (count ≢ length piece → new ≡ Ended) → (body ++ drop count piece ≡ []) ⊎ (new ≡ Ended)
ended_more body piece count old new (inr is) stays part = inr (stays is)
ended_more body piece count old new (inl none) stays part =
    elim (eqb_tells count (length piece)) [
      | inl same ↦ inl (ap (λ b. b ++ drop count piece) none ∙ ap (λ n. drop n piece) same.1 ∙ drop_all (length piece) piece (omega arith))
      | inr other ↦ inr (part other.1)
    ]

pub reads_on_more : (read header piece : List ℕ) (count : ℕ) (old new : HeaderState) → ((rest : List ℕ) → header_of (read ++ rest) ≡ header ++ header_rest old rest) → ((rest : List ℕ) → header_rest old (piece ++ rest) ≡ take count piece ++ header_rest new rest) → (rest : List ℕ) → header_of ((read ++ piece) ++ rest) ≡ (header ++ take count piece) ++ header_rest new rest
reads_on_more read header piece count old new reads part rest =
    ap header_of (append_assoc read piece rest) ∙ reads (piece ++ rest) ∙ ap (λ r. header ++ r) (part rest) ∙ sym (append_assoc header (take count piece) (header_rest new rest))

-- what is known once a piece of a file was read
pub piece_more : (bytes into piece : List ℕ) (count : ℕ) (old new : Facts) → old.size ≤ length bytes → KnowsFacts (take old.size bytes) old → ReadsFrom bytes old.size into count → piece ≡ take count into → ((read : List ℕ) → KnowsFacts read old → KnowsFacts (read ++ piece) new) → new.size ≡ old.size + count → (new.size ≤ length bytes) × KnowsFacts (take new.size bytes) new
piece_more bytes into piece count old new within knows reads is add size =
    let P : List ℕ → Type 0 = λ read. KnowsFacts read new in
    let read : take old.size bytes ++ piece ≡ take new.size bytes =
    ap (λ p. take old.size bytes ++ p) (is ∙ reads.read) ∙ sym (take-add old.size count bytes) ∙ ap (λ n. take n bytes) (sym size) in
    (omega (arith, reads.within, length-drop old.size bytes), subst P read (add (take old.size bytes) knows))

-- the line feeds of a body and of the rest of a piece
pub lines_more : (body piece : List ℕ) (old more : ℕ) → old ≡ line_count body → more ≡ line_count piece → old + more ≡ line_count (body ++ piece)
lines_more body piece old more one two = omega (arith, one, two, sum_by-append (λ byte. cond (byte == 10) 1 0) body piece)

-- no byte of a file is left, so that all of them were read
pub read_whole : (bytes into : List ℕ) (at : ℕ) → at ≤ length bytes → 0 < length into → ReadsFrom bytes at into 0 → take at bytes ≡ bytes
read_whole bytes into at within room reads =
    let none : length (drop at bytes) ≤ 0 = elim (cases_lt 0 (length (drop at bytes))) [ inl more ↦ absurd (omega (arith, reads.some room more)) | inr le ↦ le ] in
    take_all at bytes (omega (arith, none, length-drop at bytes))
