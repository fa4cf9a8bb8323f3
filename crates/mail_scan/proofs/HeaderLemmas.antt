-- How a header reads on behind one byte more.
use Rattle.std.proofs.Common.{◌≡◌, ◌≢◌, inl, inr, ℕ, ◌==◌, Bool, true, false, List, [], ◌∷◌, ◌++◌, take, drop, length, cond, get_or, ◌+◌, ◌<◌, add-one, drop-cons, refl, sym, ap, ◌∙◌}
use Rattle.std.proofs.lemmas.List.{take_more, append_assoc}
use Rattle.std.proofs.lemmas.Bool.Decides.{eqb_tells}
use Rattle.mail_scan.specs.declared.header.HeaderState.{HeaderState}
use Rattle.mail_scan.specs.declared.header.HeaderState.TheVariants.{LineStart, Cr, InLine, Ended}
use Rattle.mail_scan.specs.MessageText.{begins_with, header_from}
use Rattle.mail_scan.specs.HeaderState.{header_rest}

-- two different numbers do not pass the test
pub differs : (a b : ℕ) → a ≢ b → (a == b) ≡ false
differs a b ne = elim (eqb_tells a b) [ inl h ↦ absurd (ne h.1) | inr h ↦ h.0 ]

pub start_line_feed : (byte : ℕ) (rest : List ℕ) → byte ≡ 10 → header_rest LineStart (byte ∷ rest) ≡ byte ∷ header_rest Ended rest
unfolding header_from
start_line_feed byte rest is = rw is refl

start_cr : (rest : List ℕ) (feeds : Bool) → begins_with 10 rest ≡ feeds → header_from true (13 ∷ rest) ≡ 13 ∷ cond feeds (10 ∷ []) (header_from false rest)
unfolding header_from
start_cr rest true is = rw is refl
start_cr rest false is = rw is refl

pub start_return : (byte : ℕ) (rest : List ℕ) → byte ≡ 13 → header_rest LineStart (byte ∷ rest) ≡ byte ∷ header_rest Cr rest
start_return byte rest is = rw is (start_cr rest (begins_with 10 rest) refl)

pub start_other : (byte : ℕ) (rest : List ℕ) → byte ≢ 10 → byte ≢ 13 → header_rest LineStart (byte ∷ rest) ≡ byte ∷ header_rest InLine rest
unfolding header_from
start_other byte rest feed return = rw (differs byte 10 feed, differs byte 13 return) refl

pub return_line_feed : (byte : ℕ) (rest : List ℕ) → byte ≡ 10 → header_rest Cr (byte ∷ rest) ≡ byte ∷ header_rest Ended rest
return_line_feed byte rest is = rw is refl

pub return_other : (byte : ℕ) (rest : List ℕ) → byte ≢ 10 → header_rest Cr (byte ∷ rest) ≡ byte ∷ header_rest InLine rest
unfolding header_from
return_other byte rest feed = rw (differs byte 10 feed) refl

pub line_line_feed : (byte : ℕ) (rest : List ℕ) → byte ≡ 10 → header_rest InLine (byte ∷ rest) ≡ byte ∷ header_rest LineStart rest
unfolding header_from
line_line_feed byte rest is = rw is refl

pub line_other : (byte : ℕ) (rest : List ℕ) → byte ≢ 10 → header_rest InLine (byte ∷ rest) ≡ byte ∷ header_rest InLine rest
unfolding header_from
line_other byte rest feed = rw (differs byte 10 feed) refl

-- one byte of a piece more belongs to the header
pub part_more : (start state next : HeaderState) (piece : List ℕ) (count : ℕ) → count < length piece
    → ((rest : List ℕ) → header_rest start (piece ++ rest) ≡ take count piece ++ header_rest state (drop count piece ++ rest))
    → ((rest : List ℕ) → header_rest state (get_or piece count 0 ∷ rest) ≡ get_or piece count 0 ∷ header_rest next rest)
    → (rest : List ℕ) → header_rest start (piece ++ rest) ≡ take (count + 1) piece ++ header_rest next (drop (count + 1) piece ++ rest)
part_more start state next piece count within had step rest =
    let split : drop count piece ≡ get_or piece count 0 ∷ drop (count + 1) piece = rw (add-one, drop-cons piece count 0) refl in
    let after = header_rest next (drop (count + 1) piece ++ rest) in
    had rest
    ∙ ap (λ t. take count piece ++ header_rest state (t ++ rest)) split
    ∙ ap (λ t. take count piece ++ t) (step (drop (count + 1) piece ++ rest))
    ∙ sym (ap (λ t. t ++ after) (take_more piece count 0 within) ∙ append_assoc (take count piece) (get_or piece count 0 ∷ []) after)
