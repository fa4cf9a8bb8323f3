-- DIRTY is set, and then a record is put in its place or taken out.
use Rattle.std.proofs.Common.{◌≡◌, ℕ, ◌+◌, ◌-◌, ◌*◌, ◌/◌, ◌<◌, ◌≤◌, true, List, [], ◌∷◌, ◌++◌, length, take, drop, get_or, refl, sym, ap, subst, ◌∙◌, arith, ◌⊎◌}
use Rattle.base_bytes.specs.Landing.{written_at}
use Rattle.base_devices.specs.CrashImages.{DiskState}
use Rattle.skip_form.specs.declared.head.Head.{Head}
use Rattle.skip_form.specs.declared.header.Header.{Header}
use Rattle.skip_form.specs.Spelling.{IsHeader, Record, header_bytes, record_bytes}
use Rattle.skip_form.proofs.UniqueHeader.{header_bytes-same}
use Rattle.skip_spec.specs.Appending.{Appends, put_entry, put_record, delete_record}
use Rattle.skip_spec.specs.Records.{head_size_of}
use Rattle.skip_spec.specs.Chain.{Entry}
use Rattle.skip_spec.specs.Opens.{Contents, HasDirty, with_dirty, IsDirty}
use Rattle.skip_spec.specs.Live.{Live}
use Rattle.skip_spec.proofs.SameLog.{head_of_log, same_head, live_stays}
use Rattle.skip_lists.specs.Tie.{TiedBy, IsUpTo}
use Rattle.skip_lists.proofs.Ties.{tied_to_base}
use Rattle.skip_change.specs.Changing.{HasSpot, KeepsRest, IsStored, IsDeleted, IsTied}
use Rattle.skip_change.specs.Headers.{GetsDirty, EndsAt}
use Rattle.skip_change.specs.declared.spot.Spot.{Spot}
use Rattle.skip_change.proofs.Ended.{tied_by}
use Rattle.skip_change.proofs.Headers.{headed, length-headed, past_header}

-- a header that has DIRTY stays
pub stays_dirty : (b : List ℕ) → HasDirty b → GetsDirty b b
stays_dirty b d = record {
  long = refl;
  header = λ h is e.
      let same : d.0 ≡ h = header_bytes-same d.0 h d.1 is (sym d.2 ∙ e) in
      let odd : IsDirty h = subst (λ (x : Header). IsDirty x) same d.3 in
      let flags : h.flags ≡ h.flags / 2 * 2 + 1 = omega (arith, odd) in
      e ∙ ap (λ (n : ℕ). header_bytes (record h { flags = n })) flags;
  others = λ i le lt. refl;
}

-- one that had not gets it
pub begins_dirty : (b new : List ℕ) (h : Header) → IsHeader h → take 64 b ≡ header_bytes h → 64 ≤ length b → new ≡ written_at 0 (header_bytes (with_dirty h)) b → GetsDirty b new
begins_dirty b new h is e long made = record {
  long = ap length made ∙ length-headed b (with_dirty h) long;
  header = λ g is' e'.
      let same : h ≡ g = header_bytes-same h g is is' (sym e ∙ e') in
      ap (take 64) made ∙ headed b (with_dirty h) long ∙ ap (λ (x : Header). header_bytes (with_dirty x)) same;
  others = λ i le lt. ap (λ (x : List ℕ). get_or x i 0) made ∙ past_header b (with_dirty h) long i le lt;
}

-- the spot is that of the bytes with DIRTY too
abbrev pub dirtied_spot : (b m key : List ℕ) (spot : Spot) → GetsDirty b m → HasSpot b key spot → HasSpot m key spot
dirtied_spot b m key spot d s = record { starts = s.starts; es = s.es; live = live_stays b m s.starts s.es s.live d.long d.others; found = s.found }

module _ (b m new : List ℕ) (dirty : GetsDirty b m) (starts : List ℕ) (es : List Entry) (l : Live b starts es) where
  appends : (r : Record) → drop (length m) new ≡ record_bytes r → KeepsRest es m new → Appends r es b new
  appends r added keeps = record {
    added = subst (λ (n : ℕ). drop n new ≡ record_bytes r) dirty.long added;
    links = record {
      grows = omega (arith, keeps.links.grows, dirty.long);
      others = λ i low lt all.
          keeps.links.others i low (omega (arith, lt, dirty.long)) (λ at is.
          let place = (head_of_log b starts es (length b) l.listed.log at is).0 in
          let inside : length b ≤ length m = omega (arith, dirty.long) in
          subst (λ (h : Head). (i < at + 8) ⊎ (at + (head_size_of h - 4) ≤ i)) (sym (same_head b m starts es (length b) l.listed.log inside dirty.others at place)) (all at is))
          ∙ dirty.others i low lt;
    };
    header = λ h is e. keeps.header ∙ dirty.header h is e;
  }

module _ (b m new key : List ℕ) (spot : Spot) (s : HasSpot b key spot) (dirty : GetsDirty b m) where
  pub stored_is : (level : ℕ) (value : List ℕ) → IsStored level value m new (dirtied_spot b m key spot dirty s)
      → Appends (put_record (put_entry (length b) level key value) s.found.place.rest) s.es b new × Live new (s.starts ++ length b ∷ []) (s.found.place.front ++ (put_entry (length b) level key value ∷ s.found.place.rest))
  stored_is level value is =
      let rest = s.found.place.rest in (
        appends b m new dirty s.starts s.es s.live (put_record (put_entry (length b) level key value) rest) is.added is.keeps,
        subst (λ (n : ℕ). Live new (s.starts ++ n ∷ []) (s.found.place.front ++ (put_entry n level key value ∷ rest))) dirty.long is.live,
      )

  pub deleted_is : IsDeleted m new (dirtied_spot b m key spot dirty s) → Appends (delete_record s.found.place.rest) s.es b new × Live new (s.starts ++ length b ∷ []) (s.found.place.front ++ s.found.place.rest)
  deleted_is is = (
    appends b m new dirty s.starts s.es s.live (delete_record s.found.place.rest) is.added is.keeps,
    subst (λ (n : ℕ). Live new (s.starts ++ n ∷ []) (s.found.place.front ++ s.found.place.rest)) dirty.long is.live,
  )

-- ---- the tie

pub is_tied : (base bytes : List ℕ) (says : Contents) (committed : ℕ) (d : DiskState) → EndsAt says committed → TiedBy base says bytes true d → IsTied base says committed bytes d
is_tied base bytes says committed d end t = record { end = end; tidy = t.tidy; tied = tied_to_base base bytes says d t; known = t.known }

pub tied_again : (base bytes : List ℕ) (says : Contents) (committed : ℕ) (d : DiskState) → IsTied base says committed bytes d → IsUpTo (length bytes) d → TiedBy base says bytes true d
tied_again base bytes says committed d t up = tied_by base bytes says d t.tied t.tidy t.known up
