-- A field spells one list of bytes, or has its first bad escape at one place.
use Rattle.std.proofs.Common.{◌≡◌, ◌≢◌, ◌⊎◌, inl, inr, ℕ, zero, suc, ◌+◌, ◌-◌, ◌≤◌, Bool, true, false, List, [], ◌∷◌, ◌++◌, length, refl, sym, ◌∙◌, ap, subst, append_assoc, arith, length-append}
use Rattle.std.specs.Prelude.{◌==◌, ◌||◌}
use Rattle.base_bytes.specs.Escapes.{escaped_byte, SpellsByte, Spells, IsBadEscape, FieldsReadBack}
use Rattle.base_bytes.proofs.EscapeLemmas.{one_or_two, escapes, byte_cases, first_plain, first_escape, spells_once, spells_escaped}

-- no escape stands here: an FF with these bytes behind it
abbrev BeginsNone : List ℕ → Type 0
BeginsNone rest = (byte : ℕ) (after : List ℕ) → 255 ∷ rest ≡ escaped_byte byte ++ after → ⊥

-- the two ways to spell a byte
abbrev Ways : ℕ → List ℕ → Type 0
Ways byte first = ((byte ≢ 255) × (first ≡ byte ∷ [])) ⊎ ((second : ℕ) × (escaped_byte byte ≡ 255 ∷ second ∷ []) × (first ≡ 255 ∷ second ∷ []))

-- what begins with a field that is read begins with its bytes
spells_front : (a bytes front rest : List ℕ) → Spells a front → Spells bytes (front ++ rest) → (later : List ℕ) × Spells later rest
spells_front [] bytes front rest read spelled = (bytes, subst (λ (l : List ℕ). Spells bytes (l ++ rest)) read spelled)
spells_front (x ∷ a) bytes front rest read spelled = by (λ ys more. spells_front a ys read.1 rest read.4 more) bytes spelled (byte_cases x read.0 read.3)
  where
    by : ((ys : List ℕ) → Spells ys (read.1 ++ rest) → (later : List ℕ) × Spells later rest) → (bytes : List ℕ) → Spells bytes (front ++ rest) → Ways x read.0 → (later : List ℕ) × Spells later rest
    by later [] spelled (inl p) =
        let line : [] ≡ x ∷ (read.1 ++ rest) = sym spelled ∙ ap (λ (l : List ℕ). l ++ rest) (read.2 ∙ ap (λ (l : List ℕ). l ++ read.1) p.1) in
        absurd (cc line)
    by later [] spelled (inr q) =
        let line : [] ≡ 255 ∷ q.0 ∷ (read.1 ++ rest) = sym spelled ∙ ap (λ (l : List ℕ). l ++ rest) (read.2 ∙ ap (λ (l : List ℕ). l ++ read.1) q.2) in
        absurd (cc line)
    by later (y ∷ ys) spelled (inl p) =
        let line : front ++ rest ≡ x ∷ (read.1 ++ rest) = ap (λ (l : List ℕ). l ++ rest) (read.2 ∙ ap (λ (l : List ℕ). l ++ read.1) p.1) in
        later ys (first_plain y x ys (read.1 ++ rest) p.0 (subst (λ (l : List ℕ). Spells (y ∷ ys) l) line spelled)).1
    by later (y ∷ ys) spelled (inr q) =
        let line : front ++ rest ≡ 255 ∷ q.0 ∷ (read.1 ++ rest) = ap (λ (l : List ℕ). l ++ rest) (read.2 ∙ ap (λ (l : List ℕ). l ++ read.1) q.2) in
        later ys (first_escape y q.0 ys (read.1 ++ rest) (subst (λ (l : List ℕ). Spells (y ∷ ys) l) line spelled)).1

nothing_spells : (bytes rest : List ℕ) → BeginsNone rest → Spells bytes (255 ∷ rest) → ⊥
nothing_spells [] rest none spelled = cc spelled
nothing_spells (y ∷ bytes) rest none spelled = by (byte_cases y spelled.0 spelled.3)
  where
    by : Ways y spelled.0 → ⊥
    by (inl p) = let line : 255 ∷ rest ≡ y ∷ spelled.1 = spelled.2 ∙ ap (λ (l : List ℕ). l ++ spelled.1) p.1 in p.0 (cc line)
    by (inr q) = none y spelled.1 (spelled.2 ∙ ap (λ (l : List ℕ). l ++ spelled.1) (q.2 ∙ sym q.1))

never_both : (field bytes : List ℕ) (at : ℕ) → Spells bytes field → IsBadEscape field at → ⊥
never_both field bytes at spelled bad =
    let left = spells_front bad.bytes bytes bad.front (255 ∷ bad.rest) bad.read (subst (λ (l : List ℕ). Spells bytes l) bad.split spelled) in
    nothing_spells left.0 bad.rest bad.bad left.1

-- an escape is no bad one
no_front : (b other rest later : List ℕ) → BeginsNone rest → Spells b other → 255 ∷ rest ≡ other ++ (255 ∷ later) → [] ≡ other
no_front [] other rest later none read same = sym read
no_front (y ∷ b) other rest later none read same = absurd (by (byte_cases y read.0 read.3))
  where
    by : Ways y read.0 → ⊥
    by (inl p) =
        let line : 255 ∷ rest ≡ y ∷ (read.1 ++ (255 ∷ later)) = same ∙ ap (λ (l : List ℕ). l ++ (255 ∷ later)) (read.2 ∙ ap (λ (l : List ℕ). l ++ read.1) p.1) in
        p.0 (cc line)
    by (inr q) = none y (read.1 ++ (255 ∷ later)) (same ∙ ap (λ (l : List ℕ). l ++ (255 ∷ later)) read.2 ∙ append_assoc read.0 read.1 (255 ∷ later) ∙ ap (λ (l : List ℕ). l ++ (read.1 ++ (255 ∷ later))) (q.2 ∙ sym q.1))

same_front : (a b front other rest later : List ℕ) → Spells a front → Spells b other → BeginsNone rest → BeginsNone later → front ++ (255 ∷ rest) ≡ other ++ (255 ∷ later) → length front ≡ length other
same_front [] b front other rest later read second none nor same =
    ap length (read ∙ no_front b other rest later none second (ap (λ (l : List ℕ). l ++ (255 ∷ rest)) (sym read) ∙ same))
same_front (x ∷ a) [] front other rest later read second none nor same =
    ap length (sym (no_front (x ∷ a) front later rest nor read (ap (λ (l : List ℕ). l ++ (255 ∷ later)) (sym second) ∙ sym same)) ∙ sym second)
same_front (x ∷ a) (y ∷ b) front other rest later read second none nor same =
    by (λ tails. same_front a b read.1 second.1 rest later read.4 second.4 none nor tails) (byte_cases x read.0 read.3) (byte_cases y second.0 second.3)
  where
    by : (read.1 ++ (255 ∷ rest) ≡ second.1 ++ (255 ∷ later) → length read.1 ≡ length second.1) → Ways x read.0 → Ways y second.0 → length front ≡ length other
    by on (inl p) (inl q) =
        let one : front ≡ x ∷ read.1 = read.2 ∙ ap (λ (l : List ℕ). l ++ read.1) p.1 in
        let two : other ≡ y ∷ second.1 = second.2 ∙ ap (λ (l : List ℕ). l ++ second.1) q.1 in
        let line : x ∷ (read.1 ++ (255 ∷ rest)) ≡ y ∷ (second.1 ++ (255 ∷ later)) = ap (λ (l : List ℕ). l ++ (255 ∷ rest)) (sym one) ∙ same ∙ ap (λ (l : List ℕ). l ++ (255 ∷ later)) two in
        omega (arith, ap length one, ap length two, on (cc line))
    by on (inl p) (inr q) =
        let one : front ≡ x ∷ read.1 = read.2 ∙ ap (λ (l : List ℕ). l ++ read.1) p.1 in
        let two : other ≡ 255 ∷ q.0 ∷ second.1 = second.2 ∙ ap (λ (l : List ℕ). l ++ second.1) q.2 in
        let line : x ∷ (read.1 ++ (255 ∷ rest)) ≡ 255 ∷ (q.0 ∷ (second.1 ++ (255 ∷ later))) = ap (λ (l : List ℕ). l ++ (255 ∷ rest)) (sym one) ∙ same ∙ ap (λ (l : List ℕ). l ++ (255 ∷ later)) two in
        absurd (p.0 (cc line))
    by on (inr p) (inl q) =
        let one : front ≡ 255 ∷ p.0 ∷ read.1 = read.2 ∙ ap (λ (l : List ℕ). l ++ read.1) p.2 in
        let two : other ≡ y ∷ second.1 = second.2 ∙ ap (λ (l : List ℕ). l ++ second.1) q.1 in
        let line : 255 ∷ (p.0 ∷ (read.1 ++ (255 ∷ rest))) ≡ y ∷ (second.1 ++ (255 ∷ later)) = ap (λ (l : List ℕ). l ++ (255 ∷ rest)) (sym one) ∙ same ∙ ap (λ (l : List ℕ). l ++ (255 ∷ later)) two in
        absurd (q.0 (cc line))
    by on (inr p) (inr q) =
        let one : front ≡ 255 ∷ p.0 ∷ read.1 = read.2 ∙ ap (λ (l : List ℕ). l ++ read.1) p.2 in
        let two : other ≡ 255 ∷ q.0 ∷ second.1 = second.2 ∙ ap (λ (l : List ℕ). l ++ second.1) q.2 in
        let line : 255 ∷ (p.0 ∷ (read.1 ++ (255 ∷ rest))) ≡ 255 ∷ (q.0 ∷ (second.1 ++ (255 ∷ later))) = ap (λ (l : List ℕ). l ++ (255 ∷ rest)) (sym one) ∙ same ∙ ap (λ (l : List ℕ). l ++ (255 ∷ later)) two in
        omega (arith, ap length one, ap length two, on (cc line))

one_place : (field : List ℕ) (a b : ℕ) → IsBadEscape field a → IsBadEscape field b → a ≡ b
one_place field a b one other =
    one.place ∙ same_front one.bytes other.bytes one.front other.front one.rest other.rest one.read other.read one.bad other.bad (sym one.split ∙ other.split) ∙ sym other.place

-- which byte's escape ends so, if any
escape_or_none : (second : ℕ) → ((byte : ℕ) × (escaped_byte byte ≡ 255 ∷ second ∷ [])) ⊎ ((byte : ℕ) → escaped_byte byte ≡ 255 ∷ second ∷ [] → ⊥)
unfolding escaped_byte
escape_or_none second = by (second == 255) (second == 128 || second == 137 || second == 138 || second == 141) refl refl
  where
    by : (a b : Bool) → (second == 255) ≡ a → (second == 128 || second == 137 || second == 138 || second == 141) ≡ b → ((byte : ℕ) × (escaped_byte byte ≡ 255 ∷ second ∷ [])) ⊎ ((byte : ℕ) → escaped_byte byte ≡ 255 ∷ second ∷ [] → ⊥)
    by true b is or = inl (255, grind (arith))
    by false true is or = inl (second - 128, grind (arith))
    by false false is or = inr (λ byte escape. grind (arith, escapes byte second escape))

-- a field that begins with a byte as it is, or with an escape
abbrev Either : List ℕ → Type 0
Either field = ((bytes : List ℕ) × Spells bytes field) ⊎ ((at : ℕ) × IsBadEscape field at)

behind : (byte : ℕ) (first rest : List ℕ) → SpellsByte byte first → Either rest → Either (first ++ rest)
behind byte first rest spells (inl read) = inl (byte ∷ read.0, (first, rest, refl, spells, read.1))
behind byte first rest spells (inr bad) = inr (
  length first + bad.0,
  record {
    bytes = byte ∷ bad.1.bytes;
    front = first ++ bad.1.front;
    rest = bad.1.rest;
    read = (first, bad.1.front, refl, spells, bad.1.read);
    split = ap (λ (l : List ℕ). first ++ l) bad.1.split ∙ sym (append_assoc first bad.1.front (255 ∷ bad.1.rest));
    place = omega (arith, bad.1.place, length-append first bad.1.front);
    bad = bad.1.bad;
  },
)

bad_here : (rest : List ℕ) → BeginsNone rest → Either (255 ∷ rest)
bad_here rest none = inr (0, record { bytes = []; front = []; rest = rest; read = refl; split = refl; place = refl; bad = none })

-- an FF and a byte that make no escape
none_here : (second : ℕ) (rest : List ℕ) → ((byte : ℕ) → escaped_byte byte ≡ 255 ∷ second ∷ [] → ⊥) → BeginsNone (second ∷ rest)
none_here second rest none byte after line = by (one_or_two byte)
  where
    by : ((byte ≢ 255) × (escaped_byte byte ≡ byte ∷ [])) ⊎ ((s : ℕ) × (escaped_byte byte ≡ 255 ∷ s ∷ [])) → ⊥
    by (inl p) = let same : 255 ∷ second ∷ rest ≡ byte ∷ after = line ∙ ap (λ (l : List ℕ). l ++ after) p.1 in p.0 (cc same)
    by (inr q) =
        let same : 255 ∷ second ∷ rest ≡ 255 ∷ q.0 ∷ after = line ∙ ap (λ (l : List ℕ). l ++ after) q.1 in
        let is : second ≡ q.0 = cc same in
        none byte (q.1 ∙ ap (λ (n : ℕ). 255 ∷ n ∷ []) (sym is))

lone_here : BeginsNone []
lone_here byte after line = by (one_or_two byte)
  where
    by : ((byte ≢ 255) × (escaped_byte byte ≡ byte ∷ [])) ⊎ ((s : ℕ) × (escaped_byte byte ≡ 255 ∷ s ∷ [])) → ⊥
    by (inl p) = let same : 255 ∷ [] ≡ byte ∷ after = line ∙ ap (λ (l : List ℕ). l ++ after) p.1 in p.0 (cc same)
    by (inr q) = let same : 255 ∷ [] ≡ 255 ∷ q.0 ∷ after = line ∙ ap (λ (l : List ℕ). l ++ after) q.1 in cc same

either_within : (n : ℕ) (field : List ℕ) → length field ≤ n → Either field
either_within n [] fits = inl ([], refl)
either_within zero (x ∷ field) fits = absurd (omega (arith, fits))
either_within (suc n) (x ∷ []) fits = by (x == 255) refl
  where
    by : (b : Bool) → (x == 255) ≡ b → Either (x ∷ [])
    by true is = subst (λ (y : ℕ). Either (y ∷ [])) (grind (arith)) (bad_here [] lone_here)
    by false is = behind x (x ∷ []) [] (inr (λ e. grind (arith), refl)) (inl ([], refl))
either_within (suc n) (x ∷ y ∷ field) fits = by (x == 255) refl (either_within n (y ∷ field) (omega (arith, fits))) (either_within n field (omega (arith, fits)))
  where
    escape : ((byte : ℕ) × (escaped_byte byte ≡ 255 ∷ y ∷ [])) ⊎ ((byte : ℕ) → escaped_byte byte ≡ 255 ∷ y ∷ [] → ⊥) → Either field → Either (255 ∷ y ∷ field)
    escape (inl is) later = behind is.0 (255 ∷ y ∷ []) field (inl (sym is.1)) later
    escape (inr none) later = bad_here (y ∷ field) (none_here y field none)

    by : (b : Bool) → (x == 255) ≡ b → Either (y ∷ field) → Either field → Either (x ∷ y ∷ field)
    by true is next later = subst (λ (z : ℕ). Either (z ∷ y ∷ field)) (grind (arith)) (escape (escape_or_none y) later)
    by false is next later = behind x (x ∷ []) (y ∷ field) (inr (λ e. grind (arith), refl)) next

pub fields_read_back : FieldsReadBack
fields_read_back = record {
  back = spells_escaped;
  once = λ field a b one other. spells_once a b field one other;
  place = one_place;
  either = λ field. either_within (length field) field (omega arith);
  never_both = never_both;
}
