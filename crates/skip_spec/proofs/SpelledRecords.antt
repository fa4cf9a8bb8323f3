-- Where a record is spelled, its fields stand.
use Rattle.std.proofs.Common.{◌≡◌, ℕ, zero, suc, ◌+◌, ◌-◌, ◌*◌, ◌/◌, ◌^◌, ◌<◌, ◌≤◌, List, [], ◌∷◌, ◌++◌, length, get_or, take, drop, replicate, refl, sym, ap, subst, ◌∙◌, arith, append_assoc}
use Rattle.std.specs.List.{flat_map, AllByRecursion}
use Rattle.std.specs.Int.{w32, w64, to_be_bytes}
use Rattle.std.proofs.lemmas.List.{length-append, append-nil, length-replicate, take_at, drop_at, drop-drop}
use Rattle.std.proofs.lemmas.Nat.{from_be_bytes-to_be_bytes_4, from_be_bytes-to_be_bytes_8}
use Rattle.check_word.specs.CheckWord.{check_word}
use Rattle.check_word.proofs.Bound.{check_word-lt}
use Rattle.base_bytes.specs.Fields.{AreBytes, part, u32_in, u64_in}
use Rattle.base_bytes.proofs.Parts.{length-part, AreBytes-part}
use Rattle.skip_form.specs.declared.head.Head.{Head}
use Rattle.skip_form.specs.Fields.{pointer_in}
use Rattle.skip_form.specs.Flaws.{head_in}
use Rattle.skip_form.specs.Spelling.{Record, IsRecord, StandsAt, record_bytes, head_bytes, head_front, head_of, body_bytes, opening_bytes}
use Rattle.skip_form.proofs.HeadLemmas.{head_flaw-StandsAt}
use Rattle.skip_form.proofs.UniqueRecord.{length-numbers}
use Rattle.skip_spec.specs.Records.{HeadCheckIsRight, TailCheckIsRight, IsPadded, key_in, value_in, head_size_of, body_size_of}
use Rattle.skip_spec.proofs.Parts.{get_or-part, part-moved}
use Rattle.skip_spec.specs.Spelled.{IsSpelled}

-- the middle of three
pub part_middle : (a m z : List ℕ) (at n : ℕ) → length a ≡ at → length m ≡ n → part (a ++ m ++ z) at n ≡ m
unfolding part
part_middle a m z at n la lm = ap (take n) (ap (drop at) (append_assoc a m z) ∙ drop_at a (m ++ z) at la) ∙ take_at m z n lm

pub part_part : (b : List ℕ) (at m i n : ℕ) → at + m ≤ length b → i + n ≤ m → part (part b at m) i n ≡ part b (at + i) n
part_part b at m i n within inner =
    let len = length-part b at m within in
    part-moved (part b at m) b i (at + i) n (omega (arith, len)) (omega arith) (λ j lt. get_or-part b at m (i + j) (omega arith) ∙ ap (λ (k : ℕ). get_or b k 0) (let e : at + (i + j) ≡ at + i + j = omega arith in e))

length-front : (h : Head) (ps : List ℕ) → length (head_front h ps) ≡ 8 + 8 * length ps
length-front h ps = omega (arith, length-append (opening_bytes h) (flat_map (to_be_bytes w64) ps), length-numbers ps)

pub length-body : (key value : List ℕ) → length (body_bytes key value) ≡ (length key + length value + 7) / 8 * 8
length-body key value =
    let pad = (length key + length value + 7) / 8 * 8 - (length key + length value) in
    omega (arith, length-append (key ++ value) (replicate pad 0), length-append key value, length-replicate {A = ℕ} pad 0)

module _ (b : List ℕ) (at : ℕ) (r : Record) (is : IsSpelled b at r) where
  abbrev h : Head
  h = head_of r

  inner : (i n : ℕ) → i + n ≤ h.size → part b (at + i) n ≡ part (record_bytes r) i n
  inner i n le = sym (part_part b at h.size i n is.inside le) ∙ ap (λ (x : List ℕ). part x i n) is.whole

  abbrev head_word : List ℕ
  head_word = to_be_bytes w32 (check_word (head_front h r.pointers))

  abbrev tail_word : List ℕ
  tail_word = to_be_bytes w32 (check_word (body_bytes r.key r.value))

  abbrev body : List ℕ
  body = body_bytes r.key r.value

  front_long : length (head_front h r.pointers) ≡ head_size_of h - 8
  front_long = omega (arith, length-front h r.pointers, is.fits.slots)

  body_long : length body ≡ body_size_of h
  body_long = length-body r.key r.value

  front_at : part b at (head_size_of h - 8) ≡ head_front h r.pointers
  unfolding record_bytes head_bytes
  front_at = ap (λ (i : ℕ). part b i (head_size_of h - 8)) (let e : at ≡ at + 0 = omega arith in e) ∙ inner 0 (head_size_of h - 8) (omega arith)
      ∙ ap (λ (x : List ℕ). part x 0 (head_size_of h - 8)) (append_assoc (head_front h r.pointers ++ head_word) tail_word body ∙ append_assoc (head_front h r.pointers) head_word (tail_word ++ body))
      ∙ part_middle [] (head_front h r.pointers) (head_word ++ (tail_word ++ body)) 0 (head_size_of h - 8) refl front_long

  head_word_at : part b (at + (head_size_of h - 8)) 4 ≡ head_word
  unfolding record_bytes head_bytes
  head_word_at = inner (head_size_of h - 8) 4 (omega arith)
      ∙ ap (λ (x : List ℕ). part x (head_size_of h - 8) 4) (append_assoc (head_front h r.pointers ++ head_word) tail_word body)
      ∙ part_middle (head_front h r.pointers) head_word (tail_word ++ body) (head_size_of h - 8) 4 front_long refl

  tail_word_at : part b (at + (head_size_of h - 4)) 4 ≡ tail_word
  unfolding record_bytes head_bytes
  tail_word_at = inner (head_size_of h - 4) 4 (omega arith)
      ∙ part_middle (head_front h r.pointers ++ head_word) tail_word body (head_size_of h - 4) 4 (omega (arith, front_long, length-append (head_front h r.pointers) head_word)) refl

  body_at : part b (at + head_size_of h) (body_size_of h) ≡ body
  unfolding record_bytes head_bytes
  body_at = inner (head_size_of h) (body_size_of h) (omega arith)
      ∙ ap (λ (x : List ℕ). part x (head_size_of h) (body_size_of h)) (sym (append-nil (head_front h r.pointers ++ head_word ++ tail_word ++ body)))
      ∙ part_middle (head_front h r.pointers ++ head_word ++ tail_word) body [] (head_size_of h) (body_size_of h) (omega (arith, front_long, length-append (head_front h r.pointers) head_word, length-append (head_front h r.pointers ++ head_word) tail_word)) body_long

  opening_at : part b at 8 ≡ opening_bytes h
  unfolding part
  opening_at =
      sym (ap (λ (i : ℕ). part b i 8) (let e : at + 0 ≡ at = omega arith in e))
      ∙ sym (part_part b at (head_size_of h - 8) 0 8 (omega (arith, is.inside)) (omega arith))
      ∙ ap (λ (x : List ℕ). part x 0 8) front_at

  pub spelled_stands : StandsAt b at h
  spelled_stands = record { opening = opening_at; head = is.fits.head; place = is.place; inside = is.inside }

  pub spelled_head : head_in b at ≡ h
  spelled_head = (head_flaw-StandsAt b at h spelled_stands).1

  word_small : (i n : ℕ) → i + n ≤ h.size → check_word (part b (at + i) n) < 2 ^ 32
  word_small i n le = check_word-lt (part b (at + i) n) (subst (λ (x : List ℕ). AreBytes x) (sym (inner i n le)) (AreBytes-part (record_bytes r) i n is.bytes))

  pub spelled_check : HeadCheckIsRight b at
  unfolding u32_in
  spelled_check = subst (λ (t : Head). u32_in (part b (at + (head_size_of t - 8)) 4) ≡ check_word (part b at (head_size_of t - 8))) (sym spelled_head)
      (ap u32_in head_word_at ∙ from_be_bytes-to_be_bytes_4 _ (subst (λ (x : List ℕ). check_word x < 2 ^ 32) (ap (λ (i : ℕ). part b i (head_size_of h - 8)) (let e : at + 0 ≡ at = omega arith in e) ∙ front_at) (word_small 0 (head_size_of h - 8) (omega arith))) ∙ ap check_word (sym front_at))

  pub spelled_tail : TailCheckIsRight b at
  unfolding u32_in
  spelled_tail = subst (λ (t : Head). u32_in (part b (at + (head_size_of t - 4)) 4) ≡ check_word (part b (at + head_size_of t) (body_size_of t))) (sym spelled_head)
      (ap u32_in tail_word_at ∙ from_be_bytes-to_be_bytes_4 _ (subst (λ (x : List ℕ). check_word x < 2 ^ 32) body_at (word_small (head_size_of h) (body_size_of h) (omega arith))) ∙ ap check_word (sym body_at))

  in_body : (i n : ℕ) → i + n ≤ body_size_of h → part b (at + head_size_of h + i) n ≡ part body i n
  in_body i n le = sym (part_part b (at + head_size_of h) (body_size_of h) i n (omega (arith, is.inside)) le) ∙ ap (λ (x : List ℕ). part x i n) body_at

  abbrev pad : ℕ
  pad = body_size_of h - (h.key_len + h.value_len)

  pub spelled_key : key_in b at ≡ r.key
  spelled_key = subst (λ (t : Head). part b (at + head_size_of t) t.key_len ≡ r.key) (sym spelled_head)
      (ap (λ (i : ℕ). part b i h.key_len) (let e : at + head_size_of h ≡ at + head_size_of h + 0 = omega arith in e) ∙ in_body 0 h.key_len (omega arith)
      ∙ ap (λ (x : List ℕ). part x 0 h.key_len) (append_assoc r.key r.value (replicate pad 0)) ∙ part_middle [] r.key (r.value ++ replicate pad 0) 0 h.key_len refl refl)

  pub spelled_value : value_in b at ≡ r.value
  spelled_value = subst (λ (t : Head). part b (at + head_size_of t + t.key_len) t.value_len ≡ r.value) (sym spelled_head)
      (in_body h.key_len h.value_len (omega arith) ∙ part_middle r.key r.value (replicate pad 0) h.key_len h.value_len refl refl)

  pub spelled_padding : IsPadded b at
  spelled_padding = subst (λ (t : Head). part b (at + head_size_of t + (t.key_len + t.value_len)) (body_size_of t - (t.key_len + t.value_len)) ≡ replicate (body_size_of t - (t.key_len + t.value_len)) 0) (sym spelled_head)
      (in_body (h.key_len + h.value_len) pad (omega arith)
      ∙ ap (λ (x : List ℕ). part x (h.key_len + h.value_len) pad) (sym (append-nil (r.key ++ r.value ++ replicate pad 0)))
      ∙ part_middle (r.key ++ r.value) (replicate pad 0) [] (h.key_len + h.value_len) pad (length-append r.key r.value) (length-replicate {A = ℕ} pad 0))

pub length-record : (r : Record) → IsRecord r → length (record_bytes r) ≡ (head_of r).size
unfolding record_bytes head_bytes
length-record r fits =
    let front = head_front (head_of r) r.pointers in
    let word = to_be_bytes w32 (check_word front) in
    let tail = to_be_bytes w32 (check_word (body_bytes r.key r.value)) in
    let four : length word ≡ 4 = refl in
    let four' : length tail ≡ 4 = refl in
    omega (arith, length-append (front ++ word ++ tail) (body_bytes r.key r.value), length-append (front ++ word) tail, length-append front word, length-front (head_of r) r.pointers, length-body r.key r.value, fits.slots, four, four')

words_at : (ps z : List ℕ) (i : ℕ) → i < length ps → part (flat_map (to_be_bytes w64) ps ++ z) (8 * i) 8 ≡ to_be_bytes w64 (get_or ps i 0)
unfolding part
words_at [] z i lt = absurd (omega arith)
words_at (p ∷ ps) z zero lt = ap (take 8) (append_assoc (to_be_bytes w64 p) (flat_map (to_be_bytes w64) ps) z) ∙ take_at (to_be_bytes w64 p) (flat_map (to_be_bytes w64) ps ++ z) 8 refl
words_at (p ∷ ps) z (suc i) lt =
    let e : 8 * suc i ≡ 8 + 8 * i = omega arith in
    ap (λ (n : ℕ). take 8 (drop n (flat_map (to_be_bytes w64) (p ∷ ps) ++ z))) e
    ∙ ap (take 8) (sym (drop-drop (8 * i) 8 (flat_map (to_be_bytes w64) (p ∷ ps) ++ z)) ∙ ap (drop (8 * i)) (ap (drop 8) (append_assoc (to_be_bytes w64 p) (flat_map (to_be_bytes w64) ps) z) ∙ drop_at (to_be_bytes w64 p) (flat_map (to_be_bytes w64) ps ++ z) 8 refl))
    ∙ words_at ps z i (omega arith)

past : (xs ys : List ℕ) (i : ℕ) → length xs ≡ 8 → part (xs ++ ys) (8 + 8 * i) 8 ≡ part (ys ++ []) (8 * i) 8
unfolding part
past xs ys i e = ap (take 8) (sym (drop-drop (8 * i) 8 (xs ++ ys)) ∙ ap (drop (8 * i)) (drop_at xs ys 8 e ∙ sym (append-nil ys)))

all_small : (ps : List ℕ) (i : ℕ) → AllByRecursion (λ p. p < 2 ^ 64) ps → get_or ps i 0 < 2 ^ 64
all_small [] i all = omega arith
all_small (p ∷ ps) zero all = all.0
all_small (p ∷ ps) (suc i) all = all_small ps i all.1

pub spelled_pointer : (b : List ℕ) (at : ℕ) (r : Record) (is : IsSpelled b at r) (i : ℕ) → i ≤ r.level → pointer_in b at i ≡ get_or r.pointers i 0
unfolding u64_in
spelled_pointer b at r is i le =
    let tall : 8 + 8 * i + 8 ≤ head_size_of (head_of r) - 8 = omega arith in
    ap u64_in (
    ap (λ (q : ℕ). part b q 8) (let e : at + 8 + 8 * i ≡ at + (8 + 8 * i) = omega arith in e)
    ∙ sym (part_part b at (head_size_of (head_of r) - 8) (8 + 8 * i) 8 (omega (arith, is.inside)) tall)
    ∙ ap (λ (x : List ℕ). part x (8 + 8 * i) 8) (front_at b at r is)
    ∙ past (opening_bytes (head_of r)) (flat_map (to_be_bytes w64) r.pointers) i refl
    ∙ words_at r.pointers [] i (omega (arith, is.fits.slots)))
    ∙ from_be_bytes-to_be_bytes_8 (get_or r.pointers i 0) (all_small r.pointers i is.fits.pointers)
