-- What a field spells, byte by byte.
use Rattle.std.proofs.Common.{◌≡◌, ◌≢◌, ◌⊎◌, inl, inr, ⊎_elim, ℕ, zero, suc, ◌+◌, ◌*◌, ◌<◌, ◌≤◌, Bool, true, false, List, [], ◌∷◌, ◌++◌, length, take, drop, get_or, set, refl, sym, ◌∙◌, ap, subst, append_assoc, arith, length-append}
use Rattle.std.specs.Prelude.{flat_map, ◌==◌, ◌||◌}
use Rattle.std.proofs.lemmas.List.{append-nil, drop_more, take-append-drop, take_more_set, drop-set-lt, drop-drop, take_more, length-drop}
use Rattle.std.proofs.lemmas.List.Concat.{flat_map-append}
use Rattle.std.proofs.Math.Seq.{take-add}
use Rattle.base_bytes.specs.Escapes.{escaped_byte, escaped, SpellsByte, Spells}

-- a byte is written as it is, or as FF and another one
pub one_or_two : (byte : ℕ) → ((byte ≢ 255) × (escaped_byte byte ≡ byte ∷ [])) ⊎ ((second : ℕ) × (escaped_byte byte ≡ 255 ∷ second ∷ []))
unfolding escaped_byte
one_or_two byte = by (byte == 255) refl
  where
    other : (byte == 255) ≡ false → (b : Bool) → (byte == 0 || byte == 9 || byte == 10 || byte == 13) ≡ b → ((byte ≢ 255) × (escaped_byte byte ≡ byte ∷ [])) ⊎ ((second : ℕ) × (escaped_byte byte ≡ 255 ∷ second ∷ []))
    other isnt true is = inr (byte + 128, grind (arith))
    other isnt false is = inl (λ e. grind (arith), grind (arith))

    by : (b : Bool) → (byte == 255) ≡ b → ((byte ≢ 255) × (escaped_byte byte ≡ byte ∷ [])) ⊎ ((second : ℕ) × (escaped_byte byte ≡ 255 ∷ second ∷ []))
    by true is = inr (255, grind (arith))
    by false is = other is (byte == 0 || byte == 9 || byte == 10 || byte == 13) refl

-- the byte of an escape
pub escapes : (byte second : ℕ) → escaped_byte byte ≡ 255 ∷ second ∷ [] → ((byte ≡ 255) × (second ≡ 255)) ⊎ ((second ≡ byte + 128) × ((byte == 0 || byte == 9 || byte == 10 || byte == 13) ≡ true))
unfolding escaped_byte
escapes byte second is = grind (arith)

pub escape_once : (a b second : ℕ) → escaped_byte a ≡ 255 ∷ second ∷ [] → escaped_byte b ≡ 255 ∷ second ∷ [] → a ≡ b
escape_once a b second one other = grind (arith, escapes a second one, escapes b second other)

byte_bound : (byte : ℕ) → length (escaped_byte byte) ≤ 2
byte_bound byte = ⊎_elim (λ one. omega (arith, ap length one.1)) (λ two. omega (arith, ap length two.1)) (one_or_two byte)

-- a field is at most twice as long as what it spells
pub escaped_bound : (bytes : List ℕ) → length (escaped bytes) ≤ 2 * length bytes
unfolding escaped
escaped_bound [] = omega arith
escaped_bound (byte ∷ bytes) = omega (arith, byte_bound byte, escaped_bound bytes, length-append (escaped_byte byte) (flat_map escaped_byte bytes))

-- how a byte is spelled
pub byte_cases : (byte : ℕ) (first : List ℕ) → SpellsByte byte first → ((byte ≢ 255) × (first ≡ byte ∷ [])) ⊎ ((second : ℕ) × (escaped_byte byte ≡ 255 ∷ second ∷ []) × (first ≡ 255 ∷ second ∷ []))
byte_cases byte first (inl is) = by (one_or_two byte)
  where
    by : ((byte ≢ 255) × (escaped_byte byte ≡ byte ∷ [])) ⊎ ((second : ℕ) × (escaped_byte byte ≡ 255 ∷ second ∷ [])) → ((byte ≢ 255) × (first ≡ byte ∷ [])) ⊎ ((second : ℕ) × (escaped_byte byte ≡ 255 ∷ second ∷ []) × (first ≡ 255 ∷ second ∷ []))
    by (inl p) = inl (p.0, is ∙ p.1)
    by (inr q) = inr (q.0, q.1, is ∙ q.1)
byte_cases byte first (inr plain) = inl (plain.0, plain.1)

-- the first byte that a field spells: as it is, and by an escape
pub first_plain : (byte x : ℕ) (bytes rest : List ℕ) → x ≢ 255 → Spells (byte ∷ bytes) (x ∷ rest) → (byte ≡ x) × Spells bytes rest
first_plain byte x bytes rest isnt spelled = by (byte_cases byte spelled.0 spelled.3)
  where
    by : ((byte ≢ 255) × (spelled.0 ≡ byte ∷ [])) ⊎ ((second : ℕ) × (escaped_byte byte ≡ 255 ∷ second ∷ []) × (spelled.0 ≡ 255 ∷ second ∷ [])) → (byte ≡ x) × Spells bytes rest
    by (inl p) =
        let line : x ∷ rest ≡ byte ∷ spelled.1 = spelled.2 ∙ ap (λ (f : List ℕ). f ++ spelled.1) p.1 in
        (cc line, subst (λ (l : List ℕ). Spells bytes l) (cc line) spelled.4)
    by (inr q) =
        let line : x ∷ rest ≡ 255 ∷ q.0 ∷ spelled.1 = spelled.2 ∙ ap (λ (f : List ℕ). f ++ spelled.1) q.2 in
        absurd (isnt (cc line))

pub first_escape : (byte second : ℕ) (bytes rest : List ℕ) → Spells (byte ∷ bytes) (255 ∷ second ∷ rest) → (escaped_byte byte ≡ 255 ∷ second ∷ []) × Spells bytes rest
first_escape byte second bytes rest spelled = by (byte_cases byte spelled.0 spelled.3)
  where
    by : ((byte ≢ 255) × (spelled.0 ≡ byte ∷ [])) ⊎ ((s : ℕ) × (escaped_byte byte ≡ 255 ∷ s ∷ []) × (spelled.0 ≡ 255 ∷ s ∷ [])) → (escaped_byte byte ≡ 255 ∷ second ∷ []) × Spells bytes rest
    by (inl p) =
        let line : 255 ∷ second ∷ rest ≡ byte ∷ spelled.1 = spelled.2 ∙ ap (λ (f : List ℕ). f ++ spelled.1) p.1 in
        absurd (p.0 (cc line))
    by (inr q) =
        let line : 255 ∷ second ∷ rest ≡ 255 ∷ q.0 ∷ spelled.1 = spelled.2 ∙ ap (λ (f : List ℕ). f ++ spelled.1) q.2 in
        let same : second ≡ q.0 = cc line in
        (q.1 ∙ ap (λ (s : ℕ). 255 ∷ s ∷ []) (sym same), subst (λ (l : List ℕ). Spells bytes l) (cc line) spelled.4)

-- no FF stands alone at a field's end
pub no_lone : (bytes : List ℕ) → Spells bytes (255 ∷ []) → ⊥
no_lone [] spelled = cc spelled
no_lone (byte ∷ bytes) spelled = by (byte_cases byte spelled.0 spelled.3)
  where
    by : ((byte ≢ 255) × (spelled.0 ≡ byte ∷ [])) ⊎ ((s : ℕ) × (escaped_byte byte ≡ 255 ∷ s ∷ []) × (spelled.0 ≡ 255 ∷ s ∷ [])) → ⊥
    by (inl p) =
        let line : 255 ∷ [] ≡ byte ∷ spelled.1 = spelled.2 ∙ ap (λ (f : List ℕ). f ++ spelled.1) p.1 in
        p.0 (cc line)
    by (inr q) =
        let line : 255 ∷ [] ≡ 255 ∷ q.0 ∷ spelled.1 = spelled.2 ∙ ap (λ (f : List ℕ). f ++ spelled.1) q.2 in
        cc line

-- a field spells one list of bytes
pub spells_once : (a b field : List ℕ) → Spells a field → Spells b field → a ≡ b
spells_once [] [] field one other = refl
spells_once [] (y ∷ b) field one other = absurd (nothing (byte_cases y other.0 other.3))
  where
    nothing : ((y ≢ 255) × (other.0 ≡ y ∷ [])) ⊎ ((s : ℕ) × (escaped_byte y ≡ 255 ∷ s ∷ []) × (other.0 ≡ 255 ∷ s ∷ [])) → ⊥
    nothing (inl p) = let line : [] ≡ y ∷ other.1 = sym one ∙ other.2 ∙ ap (λ (f : List ℕ). f ++ other.1) p.1 in cc line
    nothing (inr q) = let line : [] ≡ 255 ∷ q.0 ∷ other.1 = sym one ∙ other.2 ∙ ap (λ (f : List ℕ). f ++ other.1) q.2 in cc line
spells_once (x ∷ a) [] field one other = absurd (nothing (byte_cases x one.0 one.3))
  where
    nothing : ((x ≢ 255) × (one.0 ≡ x ∷ [])) ⊎ ((s : ℕ) × (escaped_byte x ≡ 255 ∷ s ∷ []) × (one.0 ≡ 255 ∷ s ∷ [])) → ⊥
    nothing (inl p) = let line : [] ≡ x ∷ one.1 = sym other ∙ one.2 ∙ ap (λ (f : List ℕ). f ++ one.1) p.1 in cc line
    nothing (inr q) = let line : [] ≡ 255 ∷ q.0 ∷ one.1 = sym other ∙ one.2 ∙ ap (λ (f : List ℕ). f ++ one.1) q.2 in cc line
spells_once (x ∷ a) (y ∷ b) field one other = by (λ rest p q. spells_once a b rest p q) (byte_cases x one.0 one.3)
  where
    by : ((rest : List ℕ) → Spells a rest → Spells b rest → a ≡ b) → ((x ≢ 255) × (one.0 ≡ x ∷ [])) ⊎ ((s : ℕ) × (escaped_byte x ≡ 255 ∷ s ∷ []) × (one.0 ≡ 255 ∷ s ∷ [])) → x ∷ a ≡ y ∷ b
    by later (inl p) =
        let line : field ≡ x ∷ one.1 = one.2 ∙ ap (λ (f : List ℕ). f ++ one.1) p.1 in
        let second = first_plain y x b one.1 p.0 (subst (λ (f : List ℕ). Spells (y ∷ b) f) line other) in
        ap (λ (n : ℕ). n ∷ a) (sym second.0) ∙ ap (λ (l : List ℕ). y ∷ l) (later one.1 one.4 second.1)
    by later (inr q) =
        let line : field ≡ 255 ∷ q.0 ∷ one.1 = one.2 ∙ ap (λ (f : List ℕ). f ++ one.1) q.2 in
        let second = first_escape y q.0 b one.1 (subst (λ (f : List ℕ). Spells (y ∷ b) f) line other) in
        ap (λ (n : ℕ). n ∷ a) (escape_once x y q.0 q.1 second.0) ∙ ap (λ (l : List ℕ). y ∷ l) (later one.1 one.4 second.1)

-- two fields that stand side by side
pub spells_then : (a b f g : List ℕ) → Spells a f → Spells b g → Spells (a ++ b) (f ++ g)
spells_then [] b f g one other = subst (λ (l : List ℕ). Spells b (l ++ g)) (sym one) other
spells_then (x ∷ a) b f g one other =
    (one.0, one.1 ++ g, ap (λ (l : List ℕ). l ++ g) one.2 ∙ append_assoc one.0 one.1 g, one.3, spells_then a b one.1 g one.4 other)

-- the field that is written for some bytes spells them
pub spells_escaped : (bytes : List ℕ) → Spells bytes (escaped bytes)
unfolding escaped
spells_escaped [] = refl
spells_escaped (byte ∷ bytes) = (escaped_byte byte, flat_map escaped_byte bytes, refl, inl refl, spells_escaped bytes)

-- none of the first bytes, so many, is FF
abbrev pub HasNoEscape : ℕ → List ℕ → Type 0
HasNoEscape n field = (i : ℕ) → i < n → (get_or field i 0 == 255) ≡ true → ⊥

isnt_escape : (x : ℕ) → ((x == 255) ≡ true → ⊥) → x ≢ 255
isnt_escape x none is = none (grind (arith))

-- they spell themselves
pub spells_itself : (n : ℕ) (field : List ℕ) → HasNoEscape n field → Spells (take n field) (take n field)
spells_itself zero field none = refl
spells_itself (suc n) [] none = refl
spells_itself (suc n) (x ∷ field) none =
    (x ∷ [], take n field, refl, inr (isnt_escape x (none 0 (omega arith)), refl), spells_itself n field (λ i below. none (suc i) (omega (arith, below))))

-- and whatever the whole field spells begins with them
pub front_itself : (n : ℕ) (bytes field : List ℕ) → n ≤ length field → HasNoEscape n field → Spells bytes field → (take n bytes ≡ take n field) × Spells (drop n bytes) (drop n field)
front_itself zero bytes field fits none spelled = (refl, spelled)
front_itself (suc n) bytes [] fits none spelled = absurd (omega (arith, fits))
front_itself (suc n) [] (x ∷ field) fits none spelled = absurd (cc spelled)
front_itself (suc n) (byte ∷ bytes) (x ∷ field) fits none spelled =
    let first = first_plain byte x bytes field (isnt_escape x (none 0 (omega arith))) spelled in
    let later = front_itself n bytes field (omega (arith, fits)) (λ i below. none (suc i) (omega (arith, below))) first.1 in
    (ap (λ (b : ℕ). b ∷ take n bytes) first.0 ∙ ap (λ (l : List ℕ). x ∷ l) later.0, later.1)

pub one_byte : (xs : List ℕ) → 1 ≤ length xs → xs ≡ get_or xs 0 0 ∷ drop 1 xs
one_byte [] some = absurd (omega (arith, some))
one_byte (x ∷ xs) some = refl

pub two_bytes : (xs : List ℕ) → 2 ≤ length xs → xs ≡ get_or xs 0 0 ∷ get_or xs 1 0 ∷ drop 2 xs
two_bytes [] some = absurd (omega (arith, some))
two_bytes (x ∷ []) some = absurd (omega (arith, some))
two_bytes (x ∷ y ∷ xs) some = refl

-- one more byte, and what is written for it
pub escaped_more : (read : ℕ) (bytes : List ℕ) → read < length bytes → escaped (take (read + 1) bytes) ≡ escaped (take read bytes) ++ escaped_byte (get_or bytes read 0)
unfolding escaped
escaped_more read bytes below =
    ap (λ (l : List ℕ). flat_map escaped_byte l) (take_more bytes read 0 below)
    ∙ flat_map-append escaped_byte (take read bytes) (get_or bytes read 0 ∷ [])
    ∙ ap (λ (l : List ℕ). flat_map escaped_byte (take read bytes) ++ l) (append-nil (escaped_byte (get_or bytes read 0)))

pub escaped_short : (byte : ℕ) → (length (escaped_byte byte) ≡ 1) ⊎ (length (escaped_byte byte) ≡ 2)
escaped_short byte = ⊎_elim (λ p. inl (ap length p.1)) (λ q. inr (ap length q.1)) (one_or_two byte)

-- what was read of a field up to an offset
abbrev pub IsReadTo : List ℕ → ℕ → Type 0
IsReadTo field at = (bytes : List ℕ) × Spells bytes (take at field)

-- plain bytes on from there
pub read_plain : (field : List ℕ) (at plain : ℕ) → HasNoEscape plain (drop at field) → IsReadTo field at → IsReadTo field (at + plain)
read_plain field at plain none read = (
  read.0 ++ take plain (drop at field),
  subst (λ (l : List ℕ). Spells (read.0 ++ take plain (drop at field)) l) (sym (take-add at plain field))
      (spells_then read.0 (take plain (drop at field)) (take at field) (take plain (drop at field)) read.1 (spells_itself plain (drop at field) none)),
)

-- an escape there
pub read_escape : (field after : List ℕ) (at byte second : ℕ) → drop at field ≡ 255 ∷ second ∷ after → escaped_byte byte ≡ 255 ∷ second ∷ [] → IsReadTo field at → IsReadTo field (at + 2)
read_escape field after at byte second here escape read = (
  read.0 ++ (byte ∷ []),
  subst (λ (l : List ℕ). Spells (read.0 ++ (byte ∷ [])) l) (sym (take-add at 2 field))
      (spells_then read.0 (byte ∷ []) (take at field) (take 2 (drop at field)) read.1 (255 ∷ second ∷ [], [], ap (λ (l : List ℕ). take 2 l) here, inl (sym escape), refl)),
)

pub split_at : (field : List ℕ) (n : ℕ) → n < length field → get_or field n 0 ≡ 255 → field ≡ take n field ++ (255 ∷ drop (n + 1) field)
split_at field n below is =
    sym (take-append-drop n field) ∙ ap (λ (l : List ℕ). take n field ++ l) (drop_more field n 0 below ∙ ap (λ (b : ℕ). b ∷ drop (n + 1) field) is)

-- the first byte that is left of the bytes goes to the front
pub next_byte : (bytes field : List ℕ) (to from size byte : ℕ) → to ≤ from → from < length field → 0 < size
    → ((b : ℕ) (later : List ℕ) → Spells (b ∷ later) (drop from field) → (byte ≡ b) × Spells later (drop size (drop from field)))
    → (take to bytes ≡ take to field) × Spells (drop to bytes) (drop from field)
    → (take (to + 1) bytes ≡ take (to + 1) (set field to byte)) × Spells (drop (to + 1) bytes) (drop (from + size) (set field to byte))
next_byte bytes field to from size byte ordered within some first known = by (drop to bytes) refl known.1
  where
    by : (left : List ℕ) → drop to bytes ≡ left → Spells left (drop from field) → (take (to + 1) bytes ≡ take (to + 1) (set field to byte)) × Spells (drop (to + 1) bytes) (drop (from + size) (set field to byte))
    by [] is spelled = absurd (omega (arith, ap length spelled, length-drop from field))
    by (b ∷ later) is spelled =
        let read = first b later spelled in (
          take-add to 1 bytes ∙ ap (λ (l : List ℕ). l ++ take 1 (drop to bytes)) known.0
              ∙ ap (λ (l : List ℕ). take to field ++ take 1 l) is ∙ ap (λ (n : ℕ). take to field ++ (n ∷ [])) (sym read.0)
              ∙ sym (take_more_set field to byte (omega arith)),
          subst (λ (l : List ℕ). Spells l (drop (from + size) (set field to byte))) (sym (sym (drop-drop 1 to bytes) ∙ ap (λ (l : List ℕ). drop 1 l) is))
              (subst (λ (l : List ℕ). Spells later l) (drop-drop size from field ∙ sym (drop-set-lt (from + size) field to byte (omega arith))) read.1),
        )
