-- A change of a session: the map, its sizes, and the bytes after it.
use Rattle.std.proofs.Common.{◌≡◌, ◌≢◌, ℕ, ◌+◌, ◌<◌, ◌≤◌, Bool, true, false, cond, List, [], ◌∷◌, ◌++◌, length, take, Some, None, refl, sym, ap, subst, ◌∙◌, inl, inr, arith, length-append}
use Rattle.std.specs.Prelude.{is_some}
use Rattle.std.proofs.lemmas.List.{length-map}
use Rattle.base_bytes.specs.OrderedMap.{Map, IsDbMap, IsOrderedMap, put, without, value_at}
use Rattle.base_bytes.specs.declared.change.Change.TheVariants.{Put, Del}
use Rattle.db_core.specs.Refusals.{delete_refusal, size_refusal}
use Rattle.db_core.specs.Sessions.{DbState, stored, deleted}
use Rattle.db_core.specs.declared.fault.DbFault.TheVariants.{Broken}
use Rattle.base_bytes.proofs.OrderedMaps.{without_absent}
use Rattle.skip_form.specs.declared.header.Header.{Header}
use Rattle.skip_form.specs.Spelling.{IsHeader, header_bytes}
use Rattle.skip_spec.specs.Appending.{Stores, Deletes, Appends, put_entry, put_record, delete_record}
use Rattle.skip_spec.specs.Chain.{Entry, pairs}
use Rattle.skip_spec.specs.Change.{first_at}
use Rattle.skip_spec.specs.Layout.{level_for}
use Rattle.skip_spec.specs.Live.{Live, live_under, map_under}
use Rattle.skip_spec.specs.Opens.{HasDirty, with_dirty}
use Rattle.skip_spec.specs.Place.{Place, first_value}
use Rattle.skip_spec.proofs.Lives.{bytes_live, live_few}
use Rattle.skip_spec.proofs.PlaceLemmas.{place_of, place_value, live_rises, pairs_put, pairs_without}
use Rattle.skip_image.specs.Image.{HasHeader}
use Rattle.skip_seek.specs.Searches.{IsLive, live_of, map_of}
use Rattle.skip_seek.proofs.Answered.{some_offset}
use Rattle.skip_seek.proofs.Reading.{live_there}
use Rattle.skip_change.specs.Changing.{HasSpot}
use Rattle.skip_change.specs.declared.spot.Spot.{Spot}
use Rattle.skip_change.proofs.OnePlace.{spot_at}
use Rattle.skip_kind.specs.Kind.{skip_kind, change_size, plain_size}
use Rattle.skip_txn.specs.Sessions.{IsSound, session_state, within}

-- ---- places

-- the spot with the place of a list of the live records
abbrev pub spot_of_place : (b key : List ℕ) (spot : Spot) → HasSpot b key spot → (place : Place (live_of b) key) → HasSpot b key spot
spot_of_place b key spot s place = spot_at b key spot s s.starts (live_of b) (subst (λ (es : List Entry). Live b s.starts es) (sym (bytes_live b s.starts s.es s.live)) s.live) place

-- live records are fewer than the bytes
pub few : (b : List ℕ) (count end : ℕ) (changed : Bool) → IsSound b count end changed → count < length b
few b count end changed s = let t = live_there b s.live in omega (arith, s.counted, live_few b (length b) t.0 (live_of b) t.1.listed.log.rows t.1.listed.log.chain)

-- where no record of the key was found there is none, and else there is one
pub none_there : (b key : List ℕ) (spot : Spot) (s : HasSpot b key spot) → spot.same_at ≡ 0 → s.found.place.dropped ≡ []
none_there b key spot s zero = elim s.found.place.same_key [
  | inl none ↦ none
  | inr one ↦ absurd (some_offset b s.starts s.es s.live s.found.place.front one.0 s.found.place.rest
      (s.found.place.split ∙ ap (λ (ds : List Entry). s.found.place.front ++ (ds ++ s.found.place.rest)) one.1)
      (sym (s.found.same_is ∙ ap first_at one.1) ∙ zero))
]

pub one_there : (b key : List ℕ) (spot : Spot) (s : HasSpot b key spot) → spot.same_at ≢ 0 → (e : Entry) × (s.found.place.dropped ≡ e ∷ [])
one_there b key spot s some = elim s.found.place.same_key [
  | inl none ↦ absurd (some (s.found.same_is ∙ ap first_at none))
  | inr one ↦ (one.0, one.1)
]

-- how many there are
pub parts_long : (es : List Entry) (key : List ℕ) (place : Place es key) → length es ≡ length place.front + (length place.dropped + length place.rest)
parts_long es key place = ap length place.split ∙ length-append place.front (place.dropped ++ place.rest) ∙ ap (λ (n : ℕ). length place.front + n) (length-append place.dropped place.rest)

-- ---- the header of a change

dirtied : (b b' : List ℕ) → ((h : Header) → IsHeader h → take 64 b ≡ header_bytes h → take 64 b' ≡ header_bytes (with_dirty h)) → HasHeader b → HasDirty b'
dirtied b b' header h = (
  with_dirty h.0,
  record { version = h.1.version; generation = h.1.generation; num_records = h.1.num_records; repack_size = h.1.repack_size; current_size = h.1.current_size; flags = omega (arith, h.1.flags) },
  header h.0 h.1 h.2,
  omega arith,
)

has_header : (b : List ℕ) → HasDirty b → HasHeader b
has_header b d = (d.0, d.1, d.2)

-- ---- a store

module _ (b b' : List ℕ) (end : ℕ) (changed : Bool) (word : ℕ) (key value : List ℕ) (live : IsLive b) (stores : Stores (level_for word) key value b b') (same : map_under b' end ≡ map_under b end) where
  abbrev old : List Entry
  old = live_of b

  there : (starts : List ℕ) × Live b starts old
  there = live_there b live

  abbrev rises : IsOrderedMap (pairs old)
  rises = live_rises b there.0 old there.1

  abbrev place : Place old key
  place = place_of old key rises

  abbrev entry : Entry
  entry = put_entry (length b) (level_for word) key value

  abbrev now : Appends (put_record entry place.rest) old b b' × Live b' (there.0 ++ length b ∷ []) (place.front ++ entry ∷ place.rest)
  now = stores there.0 old there.1 place

  list_now : live_of b' ≡ place.front ++ entry ∷ place.rest
  list_now = bytes_live b' (there.0 ++ length b ∷ []) (place.front ++ entry ∷ place.rest) now.1

  seen_now : map_of b' ≡ put (map_of b) key value
  seen_now = ap pairs list_now ∙ pairs_put old key place rises entry refl

  pub stored_state : length b' ≡ length b + change_size (Put word key value) → session_state (within b' end true) ≡ stored skip_kind (session_state (within b end changed)) word key value
  stored_state long = cc (seen_now, same, long)

  pub stored_sound : (count count' : ℕ) → IsSound b count end changed → ((place : Place old key) → count' ≡ length place.front + 1 + length place.rest) → IsSound b' count' end true
  stored_sound count count' s counts =
      let dirty = dirtied b b' now.0.header s.header in
      record {
        live = (there.0 ++ length b ∷ [], place.front ++ entry ∷ place.rest, now.1);
        header = has_header b' dirty;
        counted = omega (arith, counts place, ap length list_now, length-append place.front (entry ∷ place.rest));
        sound = subst IsDbMap (sym same) s.sound;
        unchanged = λ is. absurd (cc is);
        changed = λ _. dirty;
      }

-- ---- a delete

deleted_there : (s : DbState) (key : List ℕ) → is_some (value_at s.seen key) ≡ true → deleted skip_kind s key ≡ record s { seen = without s.seen key; load = s.load + change_size (Del key); has_changed = true }
deleted_there s key there = ap (λ (t : Bool). record s { seen = without s.seen key; load = cond t (s.load + change_size (Del key)) s.load; has_changed = cond t true s.has_changed }) there

-- where the key is not there nothing changes
pub deleted_absent : (s : DbState) (key : List ℕ) → is_some (value_at s.seen key) ≡ false → s ≡ deleted skip_kind s key
deleted_absent s key none =
    ap (λ (m : Map). record s { seen = m }) (sym (without_absent s.seen key none))
    ∙ sym (ap (λ (t : Bool). record s { seen = without s.seen key; load = cond t (s.load + change_size (Del key)) s.load; has_changed = cond t true s.has_changed }) none)

module _ (b : List ℕ) (key : List ℕ) (spot : Spot) (s : HasSpot b key spot) where
  spot_place : (starts : List ℕ) × Live b starts (live_of b) × Place (live_of b) key
  spot_place =
      let t = live_there b (s.starts, s.es, s.live) in
      (t.0, t.1, place_of (live_of b) key (live_rises b t.0 (live_of b) t.1))

  abbrev mine : HasSpot b key spot
  mine = spot_of_place b key spot s spot_place.2

  value_is : value_at (map_of b) key ≡ first_value mine.found.place.dropped
  value_is = place_value (live_of b) key mine.found.place (live_rises b spot_place.0 (live_of b) spot_place.1)

  -- the key is not in the map, or it is
  pub key_absent : spot.same_at ≡ 0 → is_some (value_at (map_of b) key) ≡ false
  key_absent zero = ap is_some (value_is ∙ ap first_value (none_there b key spot mine zero))

  pub key_there : spot.same_at ≢ 0 → is_some (value_at (map_of b) key) ≡ true
  key_there some = ap is_some (value_is ∙ ap first_value (one_there b key spot mine some).1)

  pub dropped_one : spot.same_at ≢ 0 → (place : Place (live_of b) key) → (e : Entry) × (place.dropped ≡ e ∷ [])
  dropped_one some place = one_there b key spot (spot_of_place b key spot s place) some

module _ (b b' : List ℕ) (end : ℕ) (changed : Bool) (key : List ℕ) (spot : Spot) (s : HasSpot b key spot) (some : spot.same_at ≢ 0) (deletes : Deletes key b b') (same : map_under b' end ≡ map_under b end) where
  abbrev from : List Entry
  from = live_of b

  lives : (starts : List ℕ) × Live b starts from
  lives = live_there b (s.starts, s.es, s.live)

  abbrev rise : IsOrderedMap (pairs from)
  rise = live_rises b lives.0 from lives.1

  abbrev at : Place from key
  at = place_of from key rise

  abbrev after : Appends (delete_record at.rest) from b b' × Live b' (lives.0 ++ length b ∷ []) (at.front ++ at.rest)
  after = deletes lives.0 from lives.1 at (λ none. let one = dropped_one b key spot s some at in absurd (let h : one.0 ∷ [] ≡ [] = sym one.1 ∙ none in cc))

  list_after : live_of b' ≡ at.front ++ at.rest
  list_after = bytes_live b' (lives.0 ++ length b ∷ []) (at.front ++ at.rest) after.1

  seen_after : map_of b' ≡ without (map_of b) key
  seen_after = ap pairs list_after ∙ pairs_without from key at rise

  pub deleted_state : length b' ≡ length b + 24 → session_state (within b' end true) ≡ deleted skip_kind (session_state (within b end changed)) key
  deleted_state long =
      let now : session_state (within b' end true) ≡ record (session_state (within b end changed)) { seen = without (map_of b) key; load = length b + change_size (Del key); has_changed = true } = cc (seen_after, same, long) in
      now ∙ sym (deleted_there (session_state (within b end changed)) key (key_there b key spot s some))

  pub one_less : length (live_of b') + 1 ≡ length (live_of b)
  one_less = let one = dropped_one b key spot s some at in omega (arith, parts_long from key at, ap length one.1, ap length list_after, length-append at.front at.rest)

  pub deleted_sound : (count count' : ℕ) → IsSound b count end changed → count' + 1 ≡ count → IsSound b' count' end true
  deleted_sound count count' old counts =
      let dirty = dirtied b b' after.0.header old.header in
      record {
        live = (lives.0 ++ length b ∷ [], at.front ++ at.rest, after.1);
        header = has_header b' dirty;
        counted = omega (arith, counts, one_less, old.counted);
        sound = subst IsDbMap (sym same) old.sound;
        unchanged = λ is. absurd (cc is);
        changed = λ _. dirty;
      }

-- what is owed by a delete
pub delete_owes : (s : DbState) (key : List ℕ) → s.is_broken ≡ false → is_some (value_at s.seen key) ≡ true → delete_refusal skip_kind s key ≡ size_refusal skip_kind (s.load + change_size (Del key) + plain_size)
delete_owes s key sound there =
    ap (λ (x : Bool). cond x (Some Broken) (cond (is_some (value_at s.seen key)) (size_refusal skip_kind (s.load + change_size (Del key) + plain_size)) None)) sound
    ∙ ap (λ (x : Bool). cond x (size_refusal skip_kind (s.load + change_size (Del key) + plain_size)) None) there

pub delete_owes_nothing : (s : DbState) (key : List ℕ) → s.is_broken ≡ false → is_some (value_at s.seen key) ≡ false → delete_refusal skip_kind s key ≡ None
delete_owes_nothing s key sound none =
    ap (λ (x : Bool). cond x (Some Broken) (cond (is_some (value_at s.seen key)) (size_refusal skip_kind (s.load + change_size (Del key) + plain_size)) None)) sound
    ∙ ap (λ (x : Bool). cond x (size_refusal skip_kind (s.load + change_size (Del key) + plain_size)) None) none

-- there is a live record
pub some_live : (b key : List ℕ) (spot : Spot) → HasSpot b key spot → spot.same_at ≢ 0 → 1 ≤ length (live_of b)
some_live b key spot s some =
    let t = live_there b (s.starts, s.es, s.live) in
    let place = place_of (live_of b) key (live_rises b t.0 (live_of b) t.1) in
    let one = dropped_one b key spot s some place in
    omega (arith, parts_long (live_of b) key place, ap length one.1)
