-- The file that takes the place of a tidy one, and the session over it.
use Rattle.std.proofs.Common.{◌≡◌, ℕ, ◌+◌, ◌*◌, ◌/◌, ◌^◌, ◌<◌, ◌≤◌, false, List, [], ◌∷◌, ◌++◌, Some, None, Ok, Err, length, refl, sym, ap, ◌∙◌, subst, inr, append_assoc, arith}
use Rattle.std.specs.Prelude.{IsSome}
use Rattle.std.specs.List.{AllByRecursion}
use Rattle.base_bytes.specs.Fields.{AreBytes}
use Rattle.base_bytes.specs.OrderedMap.{Map, BeginsAbove, IsOrderedMap}
use Rattle.base_bytes.specs.declared.limits.TheConstants.{SKIP_LIMIT}
use Rattle.base_bytes.proofs.Parts.{AreBytes-part, length-part}
use Rattle.base_devices.specs.CrashImages as devices
use Rattle.base_devices.specs.Causes.{HasCause}
use Rattle.base_devices.specs.CrashImages.{DiskState, GoesOn, IsDurable, IsMoment, Shows}
use Rattle.base_devices.specs.Frames.{MayReplace, Replaces}
use Rattle.base_devices.specs.declared.disk.Failed.{Failed}
use Rattle.db_core.specs.Refusals.{IsDiskFault}
use Rattle.db_core.specs.Sessions.{at_rest, over}
use Rattle.db_core.specs.declared.fault.DbFault.{DbFault}
use Rattle.db_core.specs.declared.fault.DbFault.TheVariants.{DiskFault}
use Rattle.db_repack.specs.Repacking.{IsRepacked, MayRefuse, Repacks, RepacksOnce, repack_refusal}
use Rattle.db_repack.proofs.RepackLemmas.{OpensNow, fails, fits_limit, refuses, repacks}
use Rattle.skip_form.specs.declared.head.Kind as kinds
use Rattle.skip_form.specs.declared.header.Header.{Header}
use Rattle.skip_form.specs.Flaws.{head_in, header_in}
use Rattle.skip_form.specs.Spelling.{IsLevelOf, AreLengthsOf}
use Rattle.skip_form.proofs.HeaderLemmas.{header_flaw-header_bytes}
use Rattle.skip_spec.specs.Chain.{Entry, Chain, StandsAsEntry, pairs}
use Rattle.skip_spec.specs.Change.{last_at}
use Rattle.skip_spec.specs.FirstFlaw.{end_of}
use Rattle.skip_spec.specs.Live.{Live}
use Rattle.skip_spec.specs.Successor.{successor_under}
use Rattle.skip_spec.specs.Layout.{IsItem, Item, Repacked, fresh_contents, fresh_entries, fresh_layout, fresh_size, items_of, next_generation, pairs_of, records_size}
use Rattle.skip_spec.specs.Opens.{Contents, Reads, Tidy}
use Rattle.skip_spec.specs.Records.{head_size_of, key_in, value_in}
use Rattle.skip_spec.proofs.Kept.{row_at}
use Rattle.skip_spec.proofs.LayoutLemmas.{fresh}
use Rattle.skip_spec.proofs.Lists.{last_more}
use Rattle.skip_spec.proofs.Lives.{live_few}
use Rattle.skip_spec.proofs.Meanings.{chain_rises}
use Rattle.skip_spec.proofs.Places.{within, laid-rows}
use Rattle.skip_spec.proofs.SameLog.{tidy_live}
use Rattle.skip_spec.proofs.Unique.{reads_same}
use Rattle.skip_layout.specs.Items.{FitsRecord}
use Rattle.skip_kind.specs.Kind.{skip_kind, skip_opens}
use Rattle.skip_image.specs.Image.{CanStep, HasRecord}
use Rattle.skip_lists.proofs.Walks.{next_is}
use Rattle.skip_seek.specs.Searches.{IsLive, live_of, map_of}
use Rattle.skip_seek.specs.Walks.{IsFrom}
use Rattle.skip_seek.proofs.Answered.{entry_there}
use Rattle.skip_seek.proofs.Reading.{can_step, first_stands, live_there}
use Rattle.skip_txn.specs.Sessions.{IsTied, SkipSession, Tied, broken, bytes_of, resting, session_state, within as in_transaction}
use Rattle.twoskip.specs.Repacking.{IsRepackedFile, IsTidyFile, live_items_of, repacked_file, skip_repack}
use Rattle.twoskip.specs.TieLaws.{tied_opens}
use Rattle.twoskip.proofs.SettlingLemmas.{tidy_lives, tidy_state, tidy_tied}

-- ---- the walk over the live records

module _ (b : List ℕ) (live : IsLive b) where
  abbrev there_are : (starts : List ℕ) × Live b starts (live_of b)
  there_are = live_there b live

  pub first_step : CanStep b (length b) 64
  first_step = can_step b there_are.0 (live_of b) there_are.1 [] (live_of b) refl

  pub first_from : (at : ℕ) → at ≡ successor_under b (length b) 64 → IsFrom b at (live_of b)
  first_from at is = record { passed = []; parts = refl; first = is ∙ next_is b there_are.0 (live_of b) (length b) there_are.1.listed.log [] (live_of b) refl }

  -- the first of the records that are left, at its offset, and the others
  pub record Here (at : ℕ) (es : List Entry) : Type 0 where
    pub e : Entry
    pub back : List Entry
    pub parts : es ≡ e ∷ back
    pub there : HasRecord b at
    pub level : (head_in b at).level ≡ e.level
    pub key : key_in b at ≡ e.key
    pub value : value_in b at ≡ e.value
    pub step : CanStep b (length b) at
    pub next : (to : ℕ) → to ≡ successor_under b (length b) at → IsFrom b to back

  pub here : (at : ℕ) (es : List Entry) → IsFrom b at es → 0 < length es → Here at es
  here at [] from some = absurd (omega (arith, some))
  here at (e ∷ back) from some =
      let stands = entry_there b there_are.0 (live_of b) there_are.1 from.passed e back from.parts in
      let more : live_of b ≡ (from.passed ++ e ∷ []) ++ back = from.parts ∙ sym (append_assoc from.passed (e ∷ []) back) in
      let last : last_at 64 (from.passed ++ e ∷ []) ≡ at = last_more 64 from.passed e ∙ sym from.first in
      record {
        e = e;
        back = back;
        parts = refl;
        there = subst (λ (v : ℕ). HasRecord b v) (sym from.first) (first_stands b there_are.0 (live_of b) there_are.1 from.passed e back from.parts);
        level = ap (λ (v : ℕ). (head_in b v).level) from.first ∙ stands.level;
        key = ap (key_in b) from.first ∙ stands.key;
        value = ap (value_in b) from.first ∙ stands.value;
        step = subst (λ (v : ℕ). CanStep b (length b) v) last (can_step b there_are.0 (live_of b) there_are.1 (from.passed ++ e ∷ []) back more);
        next = λ to is. record {
          passed = from.passed ++ e ∷ [];
          parts = more;
          first = is ∙ ap (successor_under b (length b)) (sym last) ∙ next_is b there_are.0 (live_of b) (length b) there_are.1.listed.log (from.passed ++ e ∷ []) back more;
        };
      }

pub none_more : (es : List Entry) → length es ≡ 0 → es ≡ []
none_more [] none = refl
none_more (e ∷ es) none = absurd (omega (arith, none))

-- ---- the items

chain_pairs : (es : List Entry) → pairs_of (items_of es) ≡ pairs es
chain_pairs [] = refl
chain_pairs (e ∷ es) = ap (λ (m : Map). (e.key, e.value) ∷ m) (chain_pairs es)

items_long : (es : List Entry) → length (items_of es) ≡ length es
items_long [] = refl
items_long (e ∷ es) = omega (arith, items_long es)

module _ (old : List ℕ) (says : Contents) (bytes : AreBytes old) (r : Reads old says) where
  item_of : (e : Entry) → StandsAsEntry old says.starts e → (let i : Item = record { level = e.level; key = e.key; value = e.value } in IsItem i)
  item_of e is =
      let stands = row_at old 336 says.starts says.header.current_size e.at r.rows is.start in
      let span = within old 336 says.starts says.header.current_size e.at (laid-rows old 336 says.starts says.header.current_size r.rows) is.start in
      let level = subst (λ (k : kinds.Kind). IsLevelOf k (head_in old e.at).level) is.kind stands.head.level in
      let lengths = subst (λ (k : kinds.Kind). AreLengthsOf k (head_in old e.at).key_len (head_in old e.at).value_len) is.kind stands.head.lengths in
      let inside = r.inside in
      let key_long = length-part old (e.at + head_size_of (head_in old e.at)) (head_in old e.at).key_len (omega (arith, span.high, inside)) in
      let value_long = length-part old (e.at + head_size_of (head_in old e.at) + (head_in old e.at).key_len) (head_in old e.at).value_len (omega (arith, span.high, inside)) in
      record {
        low = omega (arith, level.0, is.level);
        high = omega (arith, level.1, is.level);
        key = λ i. subst (λ (k : List ℕ). AreBytes k) is.key (AreBytes-part old _ _ bytes) i;
        value = λ i. subst (λ (v : List ℕ). AreBytes v) is.value (AreBytes-part old _ _ bytes) i;
        key_fits = omega (arith, sym (ap length is.key) ∙ key_long, lengths.0);
        value_fits = omega (arith, sym (ap length is.value) ∙ value_long, lengths.1);
      }

  chain_items : (at : ℕ) (key : List ℕ) (es : List Entry) → Chain old says.header.current_size says.starts at key es → AllByRecursion IsItem (items_of es)
  chain_items at key [] c = tt
  chain_items at key (e ∷ es) c = (item_of e c.1, chain_items e.at e.key es c.3)

-- so they fit records, and their layout is small
pub fit_records : (items : List Item) → AllByRecursion IsItem items → AllByRecursion FitsRecord items
fit_records [] all = tt
fit_records (i ∷ items) all = let is = all.0 in (record { low = is.low; high = is.high; key_fits = is.key_fits; value_fits = is.value_fits }, fit_records items all.1)

few_bytes : (items : List Item) → AllByRecursion IsItem items → records_size items ≤ length items * 8589934592
few_bytes [] all = omega arith
few_bytes (i ∷ items) all = let is = all.0 in omega (arith, is.high, is.key_fits, is.value_fits, few_bytes items all.1)

few_more : (items : List Item) → fresh_size items ≤ 360 + records_size items
few_more [] = omega arith
few_more (i ∷ items) = omega arith

-- ---- the file

module _ (old : List ℕ) (is : IsTidyFile old) (bytes : AreBytes old) where
  chain_is : live_of old ≡ is.says.chain
  chain_is = tidy_lives old is.says is.reads is.tidy

  header_is : header_in old ≡ is.says.header
  header_is = (header_flaw-header_bytes old is.says.header bytes is.reads.fields is.reads.header).1

  each : AllByRecursion IsItem (live_items_of old)
  each = subst (λ (es : List Entry). AllByRecursion IsItem (items_of es)) (sym chain_is) (chain_items old is.says bytes is.reads 64 [] is.says.chain is.reads.chain)

  pub each_fits : AllByRecursion FitsRecord (live_items_of old)
  each_fits = fit_records (live_items_of old) each

  map_is : pairs_of (live_items_of old) ≡ map_of old
  map_is = chain_pairs (live_of old)

  pub size_fits : fresh_size (live_items_of old) < 2 ^ 62
  size_fits =
      let few = live_few old is.says.header.current_size is.says.starts is.says.chain is.reads.rows is.reads.chain in
      let long = items_long (live_of old) ∙ ap length chain_is in
      omega (arith, few, long, is.tidy.ends, is.within, few_bytes (live_items_of old) each, few_more (live_items_of old))

  pub counted_is : (header_in old).num_records ≡ length (live_of old)
  counted_is = ap (λ (h : Header). h.num_records) header_is ∙ is.tidy.count ∙ ap length (sym chain_is)

  pub live_is : IsLive old
  live_is = (is.says.starts, is.says.chain, tidy_live old is.says is.reads is.tidy)

  pub repacked_is : Repacked old (repacked_file old)
  repacked_is = (is.says, is.reads, (λ i. fresh_layout (next_generation (header_is i).generation) ((header_is i).flags / 2 * 2) (items_of (chain_is i))))

  pub fresh_is : IsRepackedFile old (repacked_file old)
  fresh_is =
      let rises = chain_rises old is.says.header.current_size is.says.starts 64 [] is.says.chain is.reads.chain in
      let same : pairs is.says.chain ≡ pairs_of (live_items_of old) = sym (map_is ∙ ap pairs chain_is) in
      fresh (next_generation (header_in old).generation) ((header_in old).flags / 2 * 2) (live_items_of old) (record {
        each = each;
        some_keys = subst (BeginsAbove []) same rises.0;
        ordered = subst IsOrderedMap same rises.1;
        size = omega (arith, size_fits);
        generation_fits = omega arith;
        flags_fit = omega (arith, is.reads.fields.flags, ap (λ (h : Header). h.flags) header_is);
        clean = omega arith;
      })

-- one file alone takes the place of another, since a file says one thing
pub skip_repacks_once : RepacksOnce skip_repack
skip_repacks_once file a b one other =
    let same : one.0 ≡ other.0 = reads_same file one.0 other.0 one.1 other.1 in
    one.2 ∙ (λ i. fresh_layout (next_generation (same i).header.generation) ((same i).header.flags / 2 * 2) (items_of (same i).chain)) ∙ sym other.2

-- ---- the session over it

module _ (old file : List ℕ) (is : IsRepackedFile old file) where
  abbrev items : List Item
  items = live_items_of old

  abbrev says : Contents
  says = fresh_contents (next_generation (header_in old).generation) ((header_in old).flags / 2 * 2) items

  map_stays : pairs (fresh_entries items) ≡ map_of old
  map_stays = is.map ∙ chain_pairs (live_of old)

  pub new_opens : length file ≤ SKIP_LIMIT → skip_opens (Some file) (map_of old)
  new_opens fits = record { bytes = file; there = refl; within = fits; so = record { says = says; reads = is.reads; map = map_stays; sound = inr is.tidy } }

  pub new_rests : session_state (resting file) ≡ at_rest (map_of old) (end_of file)
  new_rests =
      let header = (header_flaw-header_bytes file says.header is.bytes is.reads.fields is.reads.header).1 in
      tidy_state file says is.reads is.tidy ∙ (λ i. at_rest (map_stays i) (sym (ap (λ (h : Header). h.current_size) header) i))

  pub new_tied : (s : DiskState) → length file ≤ SKIP_LIMIT → IsMoment s → IsDurable s → (Shows s → devices.Reads s file) → Tied (resting file) s
  new_tied s = tidy_tied file says s is.reads is.tidy

-- ---- a session that is repacked

is_resting : (s : SkipSession) → (session_state s).is_broken ≡ false → (session_state s).in_transaction ≡ false → s ≡ resting (bytes_of s)
is_resting (resting bytes) sound closed = refl
is_resting (in_transaction bytes committed has_changed) sound closed = absurd (cc closed)
is_resting broken sound closed = absurd (cc sound)

module _ (s : SkipSession) (d : DiskState) (sound : (session_state s).is_broken ≡ false) (closed : (session_state s).in_transaction ≡ false) (tie : Tied s d) where
  rests : s ≡ resting (bytes_of s)
  rests = is_resting s sound closed

  tied : IsTied (bytes_of s) (length (bytes_of s)) false d
  tied = subst (λ (t : SkipSession). Tied t d) rests tie

  same_base : bytes_of s ≡ tied.base
  same_base = tied.tied.own

  pub tidy_file : IsTidyFile (bytes_of s)
  tidy_file = record {
    says = tied.says;
    reads = subst (λ (b : List ℕ). Reads b tied.says) (sym same_base) tied.tied.committed;
    tidy = subst (λ (b : List ℕ). Tidy b tied.says) (sym same_base) tied.tied.tidy;
    within = omega (arith, tied.fits);
  }

  one_map : (session_state s).committed ≡ map_of (bytes_of s)
  one_map = ap (λ (t : SkipSession). (session_state t).committed) rests

  module _ (file : List ℕ) (repacked : Repacked (bytes_of s) file) where
    is : (session_state s).is_broken ≡ false → IsRepacked skip_repack file (over d (session_state s))
    is _ main reads = let same : main ≡ bytes_of s = cc (reads, tied.tied.reads (subst IsSome (sym reads) refl)) in subst (λ (b : List ℕ). Repacked b file) (sym same) repacked

    opens : OpensNow skip_kind (session_state s) d
    opens whole c left = tied_opens s d whole tie c left

    pub refused : {T : Type 0} (fault : DbFault) → IsMoment d → MayRefuse skip_kind (session_state s) (length file) fault → ¬ IsDiskFault fault
        → Repacks {T = T} skip_repack file (over d (session_state s)) (over d (session_state s)) (Err fault)
    refused fault moment may other = refuses skip_repack file d (session_state s) is opens fault moment may other

    module _ (image : List ℕ) (same : image ≡ file) (fresh : IsRepackedFile (bytes_of s) image) (e : DiskState) (any : MayReplace image d e) (allowed : repack_refusal skip_kind (session_state s) (length file) ≡ None) where
      fits : length image ≤ SKIP_LIMIT
      fits = omega (arith, ap length same, fits_limit skip_kind (session_state s) (length file) sound allowed)

      file_opens : skip_opens (Some file) (session_state s).committed
      file_opens = subst (skip_opens (Some file)) (sym one_map) (subst (λ (b : List ℕ). skip_opens (Some b) (map_of (bytes_of s))) same (new_opens (bytes_of s) image fresh fits))

      pub failed : {T U : Type 0} (x : Failed) (t : SkipSession) → HasCause {T = T} {E = Failed} d.faults e.faults (Err x) → t ≡ broken → Repacks {T = U} skip_repack file (over d (session_state s)) (over e (session_state t)) (Err DiskFault)
      failed {T = T} x t cause given_up = fails skip_repack file d (session_state s) is opens e (session_state t) (subst (λ (b : List ℕ). MayReplace b d e) same any) file_opens {T = T} x cause allowed
          (ap (λ (u : SkipSession). (session_state u).is_broken) given_up) (ap (λ (u : SkipSession). (session_state u).in_transaction) given_up)

      pub done : {T U : Type 0} (x : T) (y : U) (t : SkipSession) → Replaces {E = Failed} image d e (Ok x) → HasCause {E = Failed} d.faults e.faults (Ok x) → t ≡ resting image
          → Repacks skip_repack file (over d (session_state s)) (over e (session_state t)) (Ok y)
      done {T = T} x y t replaces cause goes_on = repacks skip_repack file d (session_state s) is opens e (session_state t) (subst (λ (b : List ℕ). MayReplace b d e) same any) file_opens x y
          (subst (λ (b : List ℕ). Replaces {T = T} {E = Failed} b d e (Ok x)) same replaces) cause allowed
          (ap session_state goes_on ∙ new_rests (bytes_of s) image fresh ∙ (λ i. at_rest (sym one_map i) (end_of (same i))))

      pub tied_done : {T : Type 0} (x : T) (t : SkipSession) → GoesOn d e → IsMoment e → Replaces {E = Failed} image d e (Ok x) → t ≡ resting image → Tied t e
      tied_done x t time moment replaces goes_on = subst (λ (u : SkipSession). Tied u e) (sym goes_on) (new_tied (bytes_of s) image fresh e fits moment replaces.durable (λ shows. replaces.reads (time.telling.0 shows)))
