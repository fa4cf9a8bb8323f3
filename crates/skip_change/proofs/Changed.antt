-- A record was placed and the levels led there: what is live then.
use Rattle.std.proofs.Common.{◌≡◌, ◌≢◌, ℕ, ◌+◌, ◌<◌, ◌≤◌, List, [], ◌∷◌, ◌++◌, length, take, sym, ap, subst, ◌∙◌, arith}
use Rattle.std.specs.Prelude.{slice_index}
use Rattle.base_devices.specs.CrashImages.{DiskState}
use Rattle.skip_form.specs.declared.head.Kind.TheVariants.{Put, Gone}
use Rattle.skip_form.specs.Spelling.{head_of, record_bytes}
use Rattle.skip_spec.specs.Chain.{Entry}
use Rattle.skip_spec.specs.Opens.{Contents}
use Rattle.skip_spec.specs.Live.{Live, live_under}
use Rattle.skip_spec.specs.Near.{free_slot_of}
use Rattle.skip_spec.specs.Place.{height}
use Rattle.skip_spec.specs.Appending.{record_of, put_entry}
use Rattle.skip_spec.proofs.Kept.{free_slot_le}
use Rattle.skip_spec.proofs.Lists.{on_level-out}
use Rattle.skip_spec.proofs.Lives.{bytes_live}
use Rattle.skip_form.specs.Fields.{pointer_in}
use Rattle.skip_lists.specs.Levels.{ArePast}
use Rattle.skip_lists.specs.Tie.{TiedToBase, AreKnown}
use Rattle.skip_lists.proofs.Relinked.{all_relinked}
use Rattle.skip_lists.proofs.Stored.{stored, deleted, store_leads, known_put, known_gone, known_before}
use Rattle.skip_lists.proofs.Ties.{image_of}
use Rattle.skip_change.specs.Changing.{HasSpot, Places, IsKnown, Swap, listed_by, IsBegun, IsRelinked, IsStored, IsDeleted, IsTied}
use Rattle.skip_change.specs.declared.spot.Spot.{Spot}
use Rattle.skip_change.proofs.Keeping.{placed_keeps, placed_adds}
use Rattle.skip_change.proofs.PutRecords.{put_record_is}
use Rattle.skip_change.proofs.Spotted.{before_among, front_among, none_above}

module _ (b key : List ℕ) (spot : Spot) (s : HasSpot b key spot) where
  abbrev at : ℕ
  at = slice_index spot.before 0

  -- what is known of the heads that are live
  pub known_live : (says : Contents) → AreKnown says (live_under b (length b)) → AreKnown says s.es
  known_live says known = subst (λ (l : List Entry). AreKnown says l) (bytes_live b s.starts s.es s.live) known

  pub known_spot : (base : List ℕ) (says : Contents) (committed : ℕ) (d : DiskState) → IsTied base says committed b d → IsKnown says committed at
  known_spot base says committed d t = record {
    end = t.end;
    head = known_before says b s.starts s.es key spot.before spot.same_at spot.next committed s.live s.found t.end (known_live says t.known);
  }

  -- ---- a put

  abbrev pub put_swap : ℕ → List ℕ → Swap
  put_swap level value = record {
    starts = s.starts ++ length b ∷ [];
    front = s.found.place.front;
    dropped = s.found.place.dropped;
    added = put_entry (length b) level key value ∷ [];
    rest = s.found.place.rest;
  }

  pub put_known : (base : List ℕ) (says : Contents) (committed : ℕ) (d : DiskState) (level : ℕ) (value : List ℕ) → IsTied base says committed b d → AreKnown says (listed_by (put_swap level value))
  put_known base says committed d level value t =
      let i = image_of base b says d t.tied in
      known_put says s.es s.found.place.front s.found.place.dropped s.found.place.rest (put_entry (length b) level key value) s.found.place.split (known_live says t.known) i.long

  module _ (c : List ℕ) (committed level h : ℕ) (pointers value : List ℕ) (low : 1 ≤ level) (le : level ≤ h) (past : ArePast pointers s.found.place.rest h)
      (placed : Places committed at (record_of Put level (take (level + 1) pointers) key value) b c) (long : length c ≡ length b + (head_of (record_of Put level (take (level + 1) pointers) key value)).size) where
    pub put_begun : key ≢ [] → (leads : List ℕ) → ((i : ℕ) → 1 ≤ i → i < level → slice_index leads (i + 1) ≡ length b) → ((i : ℕ) → level ≤ i → 1 ≤ i → slice_index leads (i + 1) ≡ slice_index pointers (i + 1)) → IsBegun c spot.before leads h (put_swap level value)
    put_begun some leads below above = record {
      relinking = stored b c s.starts s.es key spot.before spot.same_at spot.next s.live s.found (free_slot_of b committed at) (free_slot_le committed (pointer_in b at 0) (pointer_in b at 1)) placed.sets some level h pointers value low le past placed.spelled long;
      to_lead = store_leads spot.before pointers leads s.found.place.front s.found.place.rest level h (length b) key value s.found.last past below above;
    }

    pub put_done : (new : List ℕ) → height s.found.place.dropped ≤ h → IsRelinked c new h (put_swap level value) → length new ≡ length c → IsStored level value b new s
    put_done new tall done long_new =
        let r = record_of Put level (take (level + 1) pointers) key value in
        let e = put_entry (length b) level key value in
        let in_list = front_among b key spot s in
        let among = before_among b key spot s in
        record {
          added = placed_adds b c new s.starts s.es s.found.place.front s.live.listed.log in_list committed at among r placed long done.rest long_new
              ∙ ap record_bytes (put_record_is (length b) level h pointers key value s.found.place.rest low le past placed.spelled.fits.slots);
          keeps = placed_keeps b c new s.starts s.es s.found.place.front s.live.listed.log in_list committed at among r placed long done.rest long_new;
          live = all_relinked new (s.starts ++ length b ∷ []) s.found.place.front s.found.place.dropped (e ∷ []) s.found.place.rest h done.relinking
              (λ n from. none_above b key spot s h tall n from ∙ sym (on_level-out n e s.found.place.rest (omega (arith, le, from))));
        }

  -- ---- a delete

  abbrev pub gone_swap : Swap
  gone_swap = record {
    starts = s.starts ++ length b ∷ [];
    front = s.found.place.front;
    dropped = s.found.place.dropped;
    added = [];
    rest = s.found.place.rest;
  }

  pub gone_known : (says : Contents) → AreKnown says (live_under b (length b)) → AreKnown says (listed_by gone_swap)
  gone_known says known = known_gone says s.es s.found.place.front s.found.place.dropped s.found.place.rest s.found.place.split (known_live says known)

  module _ (c : List ℕ) (committed h : ℕ) (placed : Places committed at (record_of Gone 0 (spot.next ∷ []) [] []) b c) (long : length c ≡ length b + (head_of (record_of Gone 0 (spot.next ∷ []) [] [])).size) where
    pub gone_begun : (pointers : List ℕ) → ArePast pointers s.found.place.rest h → IsBegun c spot.before pointers h gone_swap
    gone_begun pointers past = record {
      relinking = deleted b c s.starts s.es key spot.before spot.same_at spot.next s.live s.found (free_slot_of b committed at) (free_slot_le committed (pointer_in b at 0) (pointer_in b at 1)) placed.sets placed.spelled long;
      to_lead = record { last = s.found.last; to = past.upper };
    }

    pub gone_done : (new : List ℕ) → height s.found.place.dropped ≤ h → IsRelinked c new h gone_swap → length new ≡ length c → IsDeleted b new s
    gone_done new tall done long_new =
        let r = record_of Gone 0 (spot.next ∷ []) [] [] in
        let in_list = front_among b key spot s in
        let among = before_among b key spot s in
        record {
          added = placed_adds b c new s.starts s.es s.found.place.front s.live.listed.log in_list committed at among r placed long done.rest long_new
              ∙ ap (λ (n : ℕ). record_bytes (record_of Gone 0 (n ∷ []) [] [])) s.found.next_is;
          keeps = placed_keeps b c new s.starts s.es s.found.place.front s.live.listed.log in_list committed at among r placed long done.rest long_new;
          live = all_relinked new (s.starts ++ length b ∷ []) s.found.place.front s.found.place.dropped [] s.found.place.rest h done.relinking (none_above b key spot s h tall);
        }

-- the tie goes on
pub tied_on : (base : List ℕ) (says : Contents) (committed : ℕ) (b c : List ℕ) (d e : DiskState) (starts : List ℕ) (es : List Entry) → IsTied base says committed b d → TiedToBase base says c e → Live c starts es → AreKnown says es → IsTied base says committed c e
tied_on base says committed b c d e starts es t tied live known = record {
  end = t.end;
  tidy = t.tidy;
  tied = tied;
  known = subst (λ (l : List Entry). AreKnown says l) (sym (bytes_live c starts es live)) known;
}
