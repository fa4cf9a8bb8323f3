-- The fresh layout opens, and is tidy.
use Rattle.std.proofs.Common.{◌≡◌, ◌↔◌, ℕ, zero, suc, ◌+◌, ◌-◌, ◌%◌, ◌^◌, ◌<◌, ◌≤◌, Bool, true, false, cond, ltb, List, [], ◌∷◌, ◌++◌, length, get_or, take, map, refl, sym, ap, subst, ◌∙◌, inl, inr, arith, append_assoc, append-nil, length-append}
use Rattle.std.specs.List.{AllByRecursion}
use Rattle.std.proofs.lemmas.Bool.{cases_lt, lt-ltb, le-ltb}
use Rattle.std.proofs.lemmas.List.{take_at}
use Rattle.base_bytes.specs.Fields.{AreBytes, part}
use Rattle.base_bytes.specs.OrderedMap.{BeginsAbove, IsOrderedMap}
use Rattle.skip_form.specs.declared.head.Head.{Head}
use Rattle.skip_form.specs.declared.head.Kind.TheVariants.{Dummy, Put, Commit}
use Rattle.skip_form.specs.declared.header.Header.{Header}
use Rattle.skip_form.specs.Fields.{pointer_in}
use Rattle.skip_form.specs.Flaws.{head_in}
use Rattle.skip_form.specs.Sizes.{record_size}
use Rattle.skip_form.specs.Spelling.{Record, IsRecord, StandsAt, head_of, header_bytes, record_bytes}
use Rattle.skip_spec.specs.Rows.{IsAmong, Rows}
use Rattle.skip_spec.specs.Successor.{IsPointerUnder}
use Rattle.skip_spec.specs.Chain.{Entry, Chain, pairs}
use Rattle.skip_spec.specs.Change.{first_at}
use Rattle.skip_spec.specs.Opens.{Reads, Tidy, IsTidyHead, Links, on_level}
use Rattle.skip_spec.specs.Spelled.{IsSpelled}
use Rattle.skip_spec.specs.Appending.{upper_pointers, pointers_to, put_record, commit_record}
use Rattle.skip_spec.specs.Layout.{Item, IsItem, laid_out, put_records, fresh_log, dummy_record, fresh_entries, records_size, fresh_size, fresh_header, fresh_layout, fresh_starts, fresh_contents, FitsLayout, IsFresh, pairs_of, items_of}
use Rattle.skip_spec.proofs.ByteLists.{bytes-append}
use Rattle.skip_spec.proofs.RecordBytes.{bytes-record, bytes-header}
use Rattle.skip_spec.proofs.SpelledRecords.{part_middle, length-record, spelled_stands, spelled_head, spelled_check, spelled_tail, spelled_key, spelled_value, spelled_padding, spelled_pointer}

-- ---- pointers

pub length-upper : (level count : ℕ) (rest : List Entry) → length (upper_pointers level count rest) ≡ count
length-upper level zero rest = refl
length-upper level (suc count) rest = omega (arith, length-upper (suc level) count rest)

upper_at : (level count i : ℕ) (rest : List Entry) → i < count → get_or (upper_pointers level count rest) i 0 ≡ first_at (on_level (level + i) rest)
upper_at level zero i rest lt = absurd (omega arith)
upper_at level (suc count) zero rest lt = ap (λ (n : ℕ). first_at (on_level n rest)) (let e : level ≡ level + 0 = omega arith in e)
upper_at level (suc count) (suc i) rest lt = upper_at (suc level) count i rest (omega arith) ∙ ap (λ (n : ℕ). first_at (on_level n rest)) (let e : suc level + i ≡ level + suc i = omega arith in e)

-- the pointer of an upper level
pub pointer_to : (height level : ℕ) (rest : List Entry) → 1 ≤ level → level < height → get_or (pointers_to height rest) (level + 1) 0 ≡ first_at (on_level level rest)
pointer_to height zero rest low lt = absurd (omega arith)
pointer_to height (suc n) rest low lt =
    let e : suc n + 1 ≡ suc (suc n) = omega arith in
    ap (λ (i : ℕ). get_or (pointers_to height rest) i 0) e
    ∙ upper_at 1 (height - 1) n rest (omega arith)
    ∙ ap (λ (m : ℕ). first_at (on_level m rest)) (let f : 1 + n ≡ suc n = omega arith in f)

abbrev AllBelow : ℕ → List Entry → Type 0
AllBelow bound es = AllByRecursion (λ e. e.at < bound) es

first_small : (bound : ℕ) (es : List Entry) → 0 < bound → AllBelow bound es → first_at es < bound
first_small bound [] pos all = pos
first_small bound (e ∷ es) pos all = all.0

level_below : (bound level : ℕ) (es : List Entry) → AllBelow bound es → AllBelow bound (on_level level es)
level_below bound level [] all = tt
level_below bound level (e ∷ es) all = by (ltb level e.level) (level_below bound level es all.1)
  where
    by : (b : Bool) → AllBelow bound (on_level level es) → AllBelow bound (cond b (e ∷ on_level level es) (on_level level es))
    by true rest = (all.0, rest)
    by false rest = rest

upper_small : (bound level count : ℕ) (es : List Entry) → 0 < bound → AllBelow bound es → AllByRecursion (λ p. p < bound) (upper_pointers level count es)
upper_small bound level zero es pos all = tt
upper_small bound level (suc count) es pos all = (first_small bound (on_level level es) pos (level_below bound level es all), upper_small bound (suc level) count es pos all)

-- ---- records

is_put : (e : Entry) (es : List Entry) → 1 ≤ e.level → e.level ≤ 31 → length e.key < 65535 → length e.value < 4294967295 → AllBelow (2 ^ 64) es → IsRecord (put_record e es)
is_put e es low high key value all = record {
  head = record { level = (low, high); lengths = (key, value); size = refl };
  slots = omega (arith, length-upper 1 (e.level - 1) es);
  pointers = (first_small (2 ^ 64) es (omega arith) all, (omega arith, upper_small (2 ^ 64) 1 (e.level - 1) es (omega arith) all));
}

is_dummy : (es : List Entry) → AllBelow (2 ^ 64) es → IsRecord (dummy_record es)
is_dummy es all = record {
  head = record { level = refl; lengths = (refl, refl); size = refl };
  slots = omega (arith, length-upper 1 30 es);
  pointers = (first_small (2 ^ 64) es (omega arith) all, (omega arith, upper_small (2 ^ 64) 1 30 es (omega arith) all));
}

is_commit : IsRecord (commit_record 336)
is_commit = record { head = record { level = refl; lengths = (refl, refl); size = refl }; slots = refl; pointers = (omega arith, tt) }

-- a record between other bytes
spelled_between : (file front back : List ℕ) (at : ℕ) (r : Record) → length front ≡ at → file ≡ front ++ (record_bytes r ++ back) → IsRecord r → AreBytes (record_bytes r) → ((r.kind ≡ Dummy) ↔ (at ≡ 64)) → IsSpelled file at r
spelled_between file front back at r long is fits bytes place =
    let size = length-record r fits in
    let joined = is ∙ sym (append_assoc front (record_bytes r) back) in
    record {
      bytes = bytes;
      fits = fits;
      whole = ap (λ (l : List ℕ). part l at (head_of r).size) joined ∙ part_middle front (record_bytes r) back at (head_of r).size long size;
      inside = omega (arith, ap length is, length-append front (record_bytes r ++ back), length-append (record_bytes r) back, size, long);
      place = place;
    }

-- each of these stands, leading to those behind it
abbrev AreSpelled : List ℕ → List Entry → Type 0
AreSpelled file [] = Unit {0}
AreSpelled file (e ∷ es) = IsSpelled file e.at (put_record e es) × AreSpelled file es

laid_below : (bound at : ℕ) (items : List Item) → at + records_size items ≤ bound → AllBelow bound (laid_out at items)
laid_below bound at [] le = tt
laid_below bound at (i ∷ items) le = (omega (arith, le), laid_below bound (at + record_size i.level (length i.key) (length i.value)) items (omega (arith, le)))

length-laid : (at : ℕ) (items : List Item) → length (laid_out at items) ≡ length items
length-laid at [] = refl
length-laid at (i ∷ items) = omega (arith, length-laid (at + record_size i.level (length i.key) (length i.value)) items)

few_items : (items : List Item) → length items ≤ records_size items
few_items [] = omega arith
few_items (i ∷ items) = omega (arith, few_items items)

laid_pairs : (at : ℕ) (items : List Item) → pairs (laid_out at items) ≡ pairs_of items
laid_pairs at [] = refl
laid_pairs at (i ∷ items) = ap (λ (m : List (List ℕ × List ℕ)). (i.key, i.value) ∷ m) (laid_pairs (at + record_size i.level (length i.key) (length i.value)) items)

laid_items : (at : ℕ) (items : List Item) → items_of (laid_out at items) ≡ items
laid_items at [] = refl
laid_items at (i ∷ items) = ap (λ (m : List Item). i ∷ m) (laid_items (at + record_size i.level (length i.key) (length i.value)) items)

abbrev AreItems : List Item → Type 0
AreItems items = AllByRecursion IsItem items

-- the first of some items, as an entry
abbrev entry_of : ℕ → Item → Entry
entry_of at i = record { at = at; level = i.level; key = i.key; value = i.value }

abbrev after : ℕ → Item → ℕ
after at i = at + record_size i.level (length i.key) (length i.value)

put_of : (at : ℕ) (i : Item) (items : List Item) → IsItem i → at + records_size (i ∷ items) < 2 ^ 64 → IsRecord (put_record (entry_of at i) (laid_out (after at i) items))
put_of at i items is small = is_put (entry_of at i) (laid_out (after at i) items) is.low is.high is.key_fits is.value_fits (laid_below (2 ^ 64) (after at i) items (omega (arith, small)))

length-puts : (at : ℕ) (items : List Item) → AreItems items → at + records_size items < 2 ^ 64 → length (put_records (laid_out at items)) ≡ records_size items
length-puts at [] all small = refl
length-puts at (i ∷ items) all small =
    let r = put_record (entry_of at i) (laid_out (after at i) items) in
    omega (arith, length-append (record_bytes r) (put_records (laid_out (after at i) items)), length-record r (put_of at i items all.0 small), length-puts (after at i) items all.1 (omega (arith, small)))

bytes-puts : (at : ℕ) (items : List Item) → AreItems items → AreBytes (put_records (laid_out at items))
bytes-puts at [] all i = omega arith
bytes-puts at (i ∷ items) all n =
    let is = all.0 in
    let r = put_record (entry_of at i) (laid_out (after at i) items) in
    bytes-append (record_bytes r) (put_records (laid_out (after at i) items)) (bytes-record r is.high is.key is.value) (bytes-puts (after at i) items all.1) n

all_spelled : (file front back : List ℕ) (at : ℕ) (items : List Item) → AreItems items → 336 ≤ at → at + records_size items < 2 ^ 64 → length front ≡ at → file ≡ front ++ (put_records (laid_out at items) ++ back) → AreSpelled file (laid_out at items)
all_spelled file front back at [] all low small long is = tt
all_spelled file front back at (i ∷ items) all low small long is =
    let e = entry_of at i in
    let es = laid_out (after at i) items in
    let r = put_record e es in
    let item = all.0 in
    let fits = put_of at i items item small in
    let bytes = bytes-record r item.high item.key item.value in
    let first : file ≡ front ++ (record_bytes r ++ (put_records es ++ back)) = is ∙ ap (λ (l : List ℕ). front ++ l) (append_assoc (record_bytes r) (put_records es) back) in
    let next : file ≡ (front ++ record_bytes r) ++ (put_records es ++ back) = first ∙ sym (append_assoc front (record_bytes r) (put_records es ++ back)) in (
      spelled_between file front (put_records es ++ back) at r long first fits bytes (λ k. absurd (let h : Put ≡ Dummy = k in cc), λ k. absurd (omega (arith, k, low))),
      all_spelled file (front ++ record_bytes r) back (after at i) items all.1 (omega (arith, low)) (omega (arith, small)) (omega (arith, length-append front (record_bytes r), length-record r fits, long)) next,
    )

-- ---- rows

abbrev ats : List Entry → List ℕ
ats es = map (λ e. e.at) es

stands_here : (file : List ℕ) (at : ℕ) (r : Record) → IsSpelled file at r → StandsAt file at (head_in file at)
stands_here file at r is = subst (λ (h : Head). StandsAt file at h) (sym (spelled_head file at r is)) (spelled_stands file at r is)

rows_of : (file : List ℕ) (at : ℕ) (items : List Item) (more : List ℕ) (to : ℕ) → AreSpelled file (laid_out at items) → Rows file (at + records_size items) more to → Rows file at (ats (laid_out at items) ++ more) to
rows_of file at [] more to all rest = subst (λ (n : ℕ). Rows file n more to) (let e : at + 0 ≡ at = omega arith in e) rest
rows_of file at (i ∷ items) more to all rest =
    let r = put_record (entry_of at i) (laid_out (after at i) items) in
    let size : (head_in file at).size ≡ record_size i.level (length i.key) (length i.value) = ap (λ (h : Head). h.size) (spelled_head file at r all.0) in
    let later = rows_of file (after at i) items more to all.1 (subst (λ (n : ℕ). Rows file n more to) (let e : at + records_size (i ∷ items) ≡ after at i + records_size items = omega arith in e) rest) in
    (refl, stands_here file at r all.0, subst (λ (n : ℕ). Rows file (at + n) (ats (laid_out (after at i) items) ++ more) to) (sym size) later)

-- ---- the list

among_front : (xs ys : List ℕ) (v : ℕ) → IsAmong xs v → IsAmong (xs ++ ys) v
among_front [] ys v m = absurd m
among_front (x ∷ xs) ys v (inl e) = inl e
among_front (x ∷ xs) ys v (inr m) = inr (among_front xs ys v m)

module _ (file starts : List ℕ) (bound : ℕ) (pos : 0 < bound) where
  greatest : (at : ℕ) (es : List Entry) → first_at es < bound → pointer_in file at 0 ≡ first_at es → pointer_in file at 1 ≡ 0 → IsPointerUnder file bound at (first_at es)
  greatest at es lt first second = record { below = lt; one_of = inl (sym first); first = λ _. omega (arith, first); second = λ _. omega (arith, second) }

  chain_of : (at : ℕ) (key : List ℕ) (es : List Entry) → pointer_in file at 0 ≡ first_at es → pointer_in file at 1 ≡ 0 → AreSpelled file es → ((v : ℕ) → IsAmong (ats es) v → IsAmong starts v) → AllBelow bound es → AllByRecursion (λ e. 1 ≤ e.level) es → BeginsAbove key (pairs es) → IsOrderedMap (pairs es) → Chain file bound starts at key es
  chain_of at key [] first second all start low levels above ordered = (0, greatest at [] pos first second, inl (refl, refl))
  chain_of at key (e ∷ es) first second all start low levels above ordered =
      let r = put_record e es in
      let is = all.0 in
      let head = spelled_head file e.at r is in
      let put = ap (λ (h : Head). h.kind) head in (
        (e.at, greatest at (e ∷ es) low.0 first second, inr (inl (start e.at (inl refl), put, refl))),
        record {
          start = start e.at (inl refl);
          kind = put;
          level = ap (λ (h : Head). h.level) head;
          key = spelled_key file e.at r is;
          value = spelled_value file e.at r is;
          tail_check = spelled_tail file e.at r is;
          padding = spelled_padding file e.at r is;
        },
        above,
        chain_of e.at e.key es (spelled_pointer file e.at r is 0 (omega arith)) (spelled_pointer file e.at r is 1 levels.0) all.1 (λ v m. start v (inr m)) low.1 levels.1 ordered.0 ordered.1,
      )

  heads_of : (es : List Entry) → AreSpelled file es → AllBelow bound es → AllByRecursion (λ e. 1 ≤ e.level) es → AllByRecursion (λ e. IsTidyHead file bound e.at) es
  heads_of [] all low levels = tt
  heads_of (e ∷ es) all low levels =
      let r = put_record e es in
      let is = all.0 in (
        (
          omega (arith, spelled_pointer file e.at r is 0 (omega arith), first_small bound es pos low.1),
          omega (arith, spelled_pointer file e.at r is 1 levels.0, pos),
          spelled_check file e.at r is,
        ),
        heads_of es all.1 low.1 levels.1,
      )

  links_of : (level : ℕ) → 1 ≤ level → (at : ℕ) (es : List Entry) → pointer_in file at (level + 1) ≡ first_at (on_level level es) → AreSpelled file es → Links file level at (on_level level es)
  links_of level low at [] first all = first
  links_of level low at (e ∷ es) first all = elim (cases_lt level e.level) [
    | inl lt ↦
        let on : on_level level (e ∷ es) ≡ e ∷ on_level level es = ap (λ (b : Bool). cond b (e ∷ on_level level es) (on_level level es)) (lt-ltb level e.level lt) in
        let own = spelled_pointer file e.at (put_record e es) all.0 (level + 1) (omega (arith, lt)) ∙ pointer_to e.level level es low lt in
        subst (λ (fs : List Entry). Links file level at fs) (sym on) (first ∙ ap first_at on, links_of level low e.at es own all.1)
    | inr le ↦
        let off : on_level level (e ∷ es) ≡ on_level level es = ap (λ (b : Bool). cond b (e ∷ on_level level es) (on_level level es)) (le-ltb level e.level le) in
        subst (λ (fs : List Entry). Links file level at fs) (sym off) (links_of level low at es (first ∙ ap first_at off) all.1)
  ]

-- ---- the whole

length-header : (h : Header) → length (header_bytes h) ≡ 64
unfolding header_bytes
length-header h = refl

levels_of : (at : ℕ) (items : List Item) → AreItems items → AllByRecursion (λ e. 1 ≤ e.level) (laid_out at items)
levels_of at [] all = tt
levels_of at (i ∷ items) all = (all.0.low, levels_of (after at i) items all.1)

-- the log, where there is a record and where there is none
record IsLog (items : List Item) (file : List ℕ) : Type 0 where
  spelled : AreSpelled file (fresh_entries items)
  rows : Rows file 336 (fresh_starts items) (fresh_size items)
  starts : (v : ℕ) → IsAmong (ats (fresh_entries items)) v → IsAmong (fresh_starts items) v
  bytes : AreBytes (fresh_log (fresh_entries items))
  size : 336 + length (fresh_log (fresh_entries items)) ≡ fresh_size items
  below : records_size items ≤ fresh_size items

log_of : (items : List Item) (file front : List ℕ) → AreItems items → fresh_size items < 2 ^ 64 → length front ≡ 336 → file ≡ front ++ fresh_log (fresh_entries items) → IsLog items file
log_of [] file front all small long is = record { spelled = tt; rows = refl; starts = λ v m. m; bytes = λ i. omega arith; size = refl; below = omega arith }
log_of (i ∷ rest) file front all small long is =
    let items = i ∷ rest in
    let puts = put_records (fresh_entries items) in
    let commit = record_bytes (commit_record 336) in
    let end = 336 + records_size items in
    let commit_bytes = bytes-record (commit_record 336) (omega arith) (λ i. omega arith) (λ i. omega arith) in
    let puts_long = length-puts 336 items all (omega (arith, small)) in
    let spelled = all_spelled file front commit 336 items all (omega arith) (omega (arith, small)) long is in
    let at_end : file ≡ (front ++ puts) ++ (commit ++ []) = is ∙ sym (append_assoc front puts commit) ∙ ap (λ (l : List ℕ). (front ++ puts) ++ l) (sym (append-nil commit)) in
    let last = spelled_between file (front ++ puts) [] end (commit_record 336) (omega (arith, length-append front puts, long, puts_long)) at_end is_commit commit_bytes (λ k. absurd (let h : Commit ≡ Dummy = k in cc), λ k. absurd (omega (arith, k))) in
    let last_size : (head_in file end).size ≡ 24 = ap (λ (h : Head). h.size) (spelled_head file end (commit_record 336) last) in
    let last_row : Rows file end (end ∷ []) (end + 24) = (refl, stands_here file end (commit_record 336) last, ap (λ (n : ℕ). end + n) last_size) in
    record {
      spelled = spelled;
      rows = rows_of file 336 items (end ∷ []) (end + 24) spelled last_row;
      starts = λ v m. among_front (ats (fresh_entries items)) (end ∷ []) v m;
      bytes = bytes-append puts commit (bytes-puts 336 items all) commit_bytes;
      size = omega (arith, length-append puts commit, puts_long, length-record (commit_record 336) is_commit);
      below = omega arith;
    }

module _ (generation flags : ℕ) (items : List Item) (fits : FitsLayout generation flags items) where
  abbrev h : Header
  h = fresh_header generation flags items

  abbrev es : List Entry
  es = fresh_entries items

  abbrev front : List ℕ
  front = header_bytes h ++ record_bytes (dummy_record es)

  abbrev file : List ℕ
  file = fresh_layout generation flags items

  whole : file ≡ front ++ fresh_log es
  unfolding fresh_layout
  whole = refl

  room : 336 + records_size items < 2 ^ 64
  room = by items fits.size
    where
      by : (items : List Item) → fresh_size items < 2 ^ 64 → 336 + records_size items < 2 ^ 64
      by [] lt = omega arith
      by (i ∷ items) lt = omega (arith, lt)

  low : AllBelow (2 ^ 64) es
  low = laid_below (2 ^ 64) 336 items (omega (arith, room))

  dummy_fits : IsRecord (dummy_record es)
  dummy_fits = is_dummy es low

  dummy_bytes : AreBytes (record_bytes (dummy_record es))
  dummy_bytes = bytes-record (dummy_record es) (omega arith) (λ i. omega arith) (λ i. omega arith)

  dummy_spelled : IsSpelled file 64 (dummy_record es)
  dummy_spelled = spelled_between file (header_bytes h) (fresh_log es) 64 (dummy_record es) (length-header h) (whole ∙ append_assoc (header_bytes h) (record_bytes (dummy_record es)) (fresh_log es)) dummy_fits dummy_bytes (λ k. refl, λ k. refl)

  long_front : length front ≡ 336
  long_front = omega (arith, length-append (header_bytes h) (record_bytes (dummy_record es)), length-header h, length-record (dummy_record es) dummy_fits)

  log : IsLog items file
  log = log_of items file front fits.each fits.size long_front whole

  long : length file ≡ fresh_size items
  long = omega (arith, ap length whole, length-append front (fresh_log es), long_front, log.size)

  least : 336 ≤ fresh_size items
  least = omega (arith, log.size)

  entries_below : AllBelow (fresh_size items) es
  entries_below = laid_below (fresh_size items) 336 items (by items)
    where
      by : (items : List Item) → 336 + records_size items ≤ fresh_size items
      by [] = omega arith
      by (i ∷ items) = omega arith

  aligned : fresh_size items % 8 ≡ 0
  aligned = by items
    where
      sum : (items : List Item) → records_size items % 8 ≡ 0
      sum [] = refl
      sum (i ∷ items) = omega (arith, sum items)

      by : (items : List Item) → fresh_size items % 8 ≡ 0
      by [] = refl
      by (i ∷ items) = omega (arith, sum (i ∷ items))

  first_slot : pointer_in file 64 0 ≡ first_at es
  first_slot = spelled_pointer file 64 (dummy_record es) dummy_spelled 0 (omega arith)

  second_slot : pointer_in file 64 1 ≡ 0
  second_slot = spelled_pointer file 64 (dummy_record es) dummy_spelled 1 (omega arith)

  heights : AllByRecursion (λ e. 1 ≤ e.level) es
  heights = levels_of 336 items fits.each

  map_is : pairs es ≡ pairs_of items
  map_is = laid_pairs 336 items

  reads : Reads file (fresh_contents generation flags items)
  reads = record {
    header = ap (take 64) (whole ∙ append_assoc (header_bytes h) (record_bytes (dummy_record es)) (fresh_log es)) ∙ take_at (header_bytes h) (record_bytes (dummy_record es) ++ fresh_log es) 64 (length-header h);
    fields = record {
      version = refl;
      generation = fits.generation_fits;
      num_records = omega (arith, length-laid 336 items, few_items items, log.below, fits.size);
      repack_size = fits.size;
      current_size = fits.size;
      flags = fits.flags_fit;
    };
    least = least;
    aligned = aligned;
    inside = omega (arith, long);
    dummy = stands_here file 64 (dummy_record es) dummy_spelled;
    rows = log.rows;
    dummy_tail = spelled_tail file 64 (dummy_record es) dummy_spelled;
    chain = chain_of file (fresh_starts items) (fresh_size items) (omega (arith, least)) 64 [] es first_slot second_slot log.spelled log.starts entries_below heights
        (subst (BeginsAbove []) (sym map_is) fits.some_keys) (subst IsOrderedMap (sym map_is) fits.ordered);
  }

  tidy : Tidy file (fresh_contents generation flags items)
  tidy = record {
    clean = λ dirty. omega (arith, dirty, fits.clean);
    ends = long;
    dummy = (omega (arith, first_slot, first_small (fresh_size items) es (omega (arith, least)) entries_below), omega (arith, second_slot, least), spelled_check file 64 (dummy_record es) dummy_spelled);
    heads = heads_of file (fresh_starts items) (fresh_size items) (omega (arith, least)) es log.spelled entries_below heights;
    count = refl;
    levels = λ level lo hi. links_of file (fresh_starts items) (fresh_size items) (omega (arith, least)) level lo 64 es (spelled_pointer file 64 (dummy_record es) dummy_spelled (level + 1) (omega arith) ∙ pointer_to 31 level es lo (omega arith)) log.spelled;
  }

  pub fresh : IsFresh generation flags items file
  fresh = record {
    bytes = λ i. subst (λ (l : List ℕ). AreBytes l) (sym whole) (bytes-append front (fresh_log es) (bytes-append (header_bytes h) (record_bytes (dummy_record es)) (bytes-header h) dummy_bytes) log.bytes) i;
    size = long;
    reads = reads;
    tidy = tidy;
    map = map_is;
    levels = laid_items 336 items;
  }
