-- A commit record is appended, and the header commits.
use Rattle.std.proofs.Common.{◌≡◌, ℕ, append_assoc, ◌+◌, ◌%◌, ◌^◌, ◌<◌, ◌≤◌, ◌↔◌, true, Some, Option, List, [], ◌∷◌, ◌++◌, length, map, take, drop, get_or, refl, sym, ap, subst, ◌∙◌, inl, inr, arith, ◌≢◌}
use Rattle.std.proofs.lemmas.List.{length-append, get_or_append_left, drop-append-le}
use Rattle.std.specs.Prelude.{IsSome}
use Rattle.base_bytes.specs.Fields.{AreBytes}
use Rattle.base_bytes.specs.Landing.{written_at}
use Rattle.base_devices.specs.CrashImages.{Image, DiskState, Shows, Reads, IsAbsent, IsDurable}
use Rattle.skip_form.specs.declared.head.Head.{Head}
use Rattle.skip_form.specs.declared.head.Kind.TheVariants.{Dummy}
use Rattle.skip_form.specs.declared.header.Header.{Header}
use Rattle.skip_form.specs.Fields.{pointer_in}
use Rattle.skip_form.specs.Flaws.{head_in}
use Rattle.skip_form.specs.Spelling.{StandsAt, IsHeader, IsRecord, header_bytes, record_bytes}
use Rattle.skip_spec.specs.Chain.{Entry, pairs}
use Rattle.skip_spec.specs.Change.{heads_of}
use Rattle.skip_spec.specs.Rows.{IsAmong, Rows}
use Rattle.skip_spec.specs.Successor.{IsGreatestUnder}
use Rattle.skip_spec.specs.Opens as opens
use Rattle.skip_spec.specs.Opens.{Contents, Tidy, Opens, IsDirty}
use Rattle.skip_spec.specs.Live.{HasLog, Live, live_under, map_under}
use Rattle.skip_spec.specs.Appending.{commit_record, committed_header, Commits}
use Rattle.skip_spec.specs.Spelled.{IsSpelled}
use Rattle.skip_spec.proofs.Lives.{bytes_live}
use Rattle.skip_spec.proofs.Places.{in_chain}
use Rattle.skip_spec.proofs.SameLog.{laid_log, head_of_log, level_range, high_in_log, same_slot, log_stays, tidy_stays, level_stays, live_tidy}
use Rattle.skip_spec.proofs.SpelledRecords.{spelled_stands, spelled_head, length-record}
use Rattle.skip_spec.proofs.Splice.{Holds, Includes, chain_stays}
use Rattle.skip_form.proofs.UniqueHeader.{header_bytes-same}
use Rattle.skip_lists.specs.Tie.{OnBytes, TiedToBase, TiedBy, AreKnown, IsUpTo}
use Rattle.skip_lists.proofs.Ties.{added_part}
use Rattle.skip_change.specs.Headers.{IsCommittedAs, HaveHeaders, MayHaveHeader}
use Rattle.skip_change.proofs.Headers.{length-header, length-headed, headed, live_headed, only_read}

-- ---- the log is longer by a record to which nothing leads

rows_push : (c : List ℕ) (at : ℕ) (starts : List ℕ) (end : ℕ) → Rows c at starts end → StandsAt c end (head_in c end) → Rows c at (starts ++ end ∷ []) (end + (head_in c end).size)
rows_push c at [] end r is = (sym r, subst (λ (v : ℕ). StandsAt c v (head_in c v)) (sym r) is, ap (λ (v : ℕ). v + (head_in c v).size) r)
rows_push c at (s ∷ ss) end r is = (r.0, r.1, rows_push c (at + (head_in c at).size) ss end r.2 is)

among_old : (starts more : List ℕ) (v : ℕ) → IsAmong starts v → IsAmong (starts ++ more) v
among_old (s ∷ ss) more v (inl e) = inl e
among_old (s ∷ ss) more v (inr m) = inr (among_old ss more v m)
among_old [] more v m = absurd m

module _ (b c starts : List ℕ) (es : List Entry) (l : Live b starts es) (same : (i : ℕ) → 64 ≤ i → i < length b → get_or c i 0 ≡ get_or b i 0)
    (is : StandsAt c (length b) (head_in c (length b))) (ends : length c ≡ length b + (head_in c (length b)).size) (aligned : length c % 8 ≡ 0) where
  abbrev log : HasLog b starts es (length b)
  log = l.listed.log

  abbrev more : List ℕ
  more = starts ++ length b ∷ []

  longer : length b < length c
  longer = omega (arith, ends)

  inside : length b ≤ length c
  inside = omega (arith, longer)

  holds : Holds b c starts (length b) (heads_of es)
  holds = record { laid = laid_log b starts es (length b) log; rows = log.rows; heads = head_of_log b starts es (length b) log; long_b = log.inside; long_c = inside; others = λ i lo lt all. same i lo lt }

  grown : Includes starts more
  grown v m = among_old starts (length b ∷ []) v m

  slot_stays : (h n : ℕ) → IsAmong (heads_of es) h → n ≤ 1 → pointer_in c h n ≡ pointer_in b h n
  slot_stays h n m le = let range = level_range b starts es (length b) log h m in same_slot b c starts es (length b) log inside same h n m (omega (arith, le, range.0))

  pointers : (h v : ℕ) → IsAmong (heads_of es) h → h ≢ 0 → IsGreatestUnder (length b) (pointer_in b h 0) (pointer_in b h 1) v → IsGreatestUnder (length c) (pointer_in c h 0) (pointer_in c h 1) v
  pointers h v m ne old =
      let tidy = l.listed.heads h m in
      record {
        below = omega (arith, old.below, longer);
        one_of = elim old.one_of [ inl e ↦ inl (e ∙ sym (slot_stays h 0 m (omega arith))) | inr e ↦ inr (e ∙ sym (slot_stays h 1 m (omega arith))) ];
        first = λ _. omega (arith, slot_stays h 0 m (omega arith), old.first tidy.0);
        second = λ _. omega (arith, slot_stays h 1 m (omega arith), old.second tidy.1);
      }

  some : (v : ℕ) → IsAmong (map (λ e. e.at) es) v → v ≢ 0
  some v m z = let high = high_in_log b starts es (length b) log v (in_chain b (length b) starts 64 [] es v log.chain m).0 in omega (arith, high, z)

  pub live_longer : Live c more es
  live_longer =
      let kept = log_stays b c starts es (length b) log inside same in
      record {
        listed = record {
          log = record {
            least = omega (arith, log.least, longer);
            inside = omega arith;
            dummy = kept.dummy;
            dummy_tail = kept.dummy_tail;
            rows = subst (λ (n : ℕ). Rows c 336 more n) (sym ends) (rows_push c 336 starts (length b) kept.rows is);
            chain = chain_stays b c starts more (length b) (heads_of es) holds grown (length b) (length c) 0 pointers 64 [] es (inl refl) (λ e. omega (arith, e)) (λ v m. (inr m, some v m)) log.chain;
          };
          aligned = aligned;
          heads = λ h m. let old = tidy_stays b c starts es (length b) log inside same h m (l.listed.heads h m) in (omega (arith, old.0, longer), omega (arith, old.1, longer), old.2);
        };
        levels = λ level lo hi. level_stays b c starts es (length b) log inside same level hi (l.levels level lo hi);
      }

-- ---- the commit record

module _ (b c : List ℕ) (start : ℕ) (made : c ≡ b ++ record_bytes (commit_record start)) (form : IsRecord (commit_record start)) (bytes : AreBytes (record_bytes (commit_record start))) where
  pub long_ended : length c ≡ length b + 24
  long_ended = ap length made ∙ length-append b (record_bytes (commit_record start)) ∙ ap (λ (n : ℕ). length b + n) (length-record (commit_record start) form)

  pub live_ended : (starts : List ℕ) (es : List Entry) → Live b starts es → Live c (starts ++ length b ∷ []) es
  live_ended starts es l =
      let r = commit_record start in
      let kinds : (r.kind ≡ Dummy) ↔ (length b ≡ 64) = (λ d. absurd (cc d), λ e. absurd (let least = l.listed.log.least in omega (arith, e, least))) in
      let spelled : IsSpelled c (length b) r = record {
        bytes = bytes;
        fits = form;
        whole = added_part b (record_bytes r) c (length b) 24 made refl (omega (arith, long_ended));
        inside = omega (arith, long_ended);
        place = kinds;
      } in
      let head = spelled_head c (length b) r spelled in
      live_longer b c starts es l (λ i le lt. ap (λ (x : List ℕ). get_or x i 0) made ∙ get_or_append_left b (record_bytes r) 0 i lt)
      (subst (λ (h : Head). StandsAt c (length b) h) (sym head) (spelled_stands c (length b) r spelled))
      (long_ended ∙ ap (λ (h : Head). length b + h.size) (sym head))
      (omega (arith, long_ended, l.listed.aligned))

-- the tie of a session, from that to its base
pub tied_by : (base bytes : List ℕ) (says : Contents) (d : DiskState) → TiedToBase base says bytes d → Tidy base says → AreKnown says (live_under bytes (length bytes)) → IsUpTo (length bytes) d → TiedBy base says bytes true d
tied_by base bytes says d t tidy known up = record {
  committed = t.committed;
  tidy = tidy;
  own = t.own;
  known = known;
  reads = t.reads;
  left = λ c left.
      let is = t.left c left in
      let short = up c left in
      let same : short.0 ≡ is.0 = cc (short.1, is.1) in
      (is.0, is.1, (is.2, subst (λ (f : List ℕ). length f ≤ length bytes) same short.2));
}

-- each image left by a tied disk is no longer than the bytes
pub tied_up_to : (base bytes : List ℕ) (says : Contents) (d : DiskState) → TiedBy base says bytes true d → IsUpTo (length bytes) d
tied_up_to base bytes says d t = λ c left. let is = t.left c left in (is.0, is.1, is.2.1)

-- a file that reads is there
pub no_absent : (s : DiskState) (file : List ℕ) → (Shows s → Reads s file) → IsAbsent s → ⊥
no_absent s file reads absent = absurd (cc (reads (subst (λ (o : Option Image). IsSome o) (sym absent) refl), absent))

-- a sync keeps the tie
pub synced_tie : (base bytes : List ℕ) (says : Contents) (d e : DiskState) → TiedBy base says bytes true d → ((c : Image) → e.leaves c → d.leaves c) → (Shows e → Reads e bytes) → TiedBy base says bytes true e
synced_tie base bytes says d e t crash reads = record {
  committed = t.committed;
  tidy = t.tidy;
  own = t.own;
  known = t.known;
  reads = reads;
  left = λ c left. t.left c (crash c left);
}

-- ---- the header that commits

module _ (b mid : List ℕ) (h : Header) (is : IsHeader h) (head : take 64 b ≡ header_bytes h) (starts : List ℕ) (es : List Entry) (live : Live b starts es) (count : ℕ) (counted : count ≡ length es)
    (count_fits : count < 2 ^ 64) (end_fits : length mid < 2 ^ 64) (made : mid ≡ b ++ record_bytes (commit_record h.current_size)) (live_mid : Live mid (starts ++ length b ∷ []) es) (long_mid : length mid ≡ length b + 24) where
  abbrev now : Header
  now = committed_header h (length mid) count

  abbrev pub committed_bytes : List ℕ
  committed_bytes = written_at 0 (header_bytes now) mid

  abbrev pub committed_says : Contents
  committed_says = record { header = now; starts = starts ++ length b ∷ []; chain = es }

  enough : 64 ≤ length mid
  enough = let least = live.listed.log.least in omega (arith, least, long_mid)

  live_new : Live committed_bytes (starts ++ length b ∷ []) es
  live_new = live_headed mid now enough (starts ++ length b ∷ []) es live_mid

  sound : opens.Reads committed_bytes committed_says × Tidy committed_bytes committed_says
  sound = live_tidy committed_bytes committed_says live_new (record {
    header = headed mid now enough;
    fields = record { version = is.version; generation = is.generation; num_records = count_fits; repack_size = is.repack_size; current_size = end_fits; flags = omega (arith, is.flags) };
    clean = λ d. omega (arith, d);
    ends = length-headed mid now enough;
    count = counted;
  })

  list_is : live_under b (length b) ≡ es
  list_is = bytes_live b starts es live

  pub committed_opens : Opens committed_bytes (map_under b (length b))
  committed_opens = record { says = committed_says; reads = sound.0; map = sym (ap pairs list_is); sound = inr sound.1 }

  pub committed_tied : (d : DiskState) → IsDurable d → (Shows d → Reads d committed_bytes) → IsCommittedAs b committed_bytes d
  committed_tied d durable reads = record {
    says = committed_says;
    list = sym list_is;
    tied = record {
      committed = sound.0;
      tidy = sound.1;
      own = refl;
      known = subst (λ (l : List Entry). AreKnown committed_says l) (sym (bytes_live committed_bytes (starts ++ length b ∷ []) es live_new)) (λ at m lt. m);
      reads = reads;
      left = λ c left. (committed_bytes, only_read d committed_bytes durable reads c left, (refl, omega arith));
    };
  }

  pub committed_commits : Commits b committed_bytes
  committed_commits g starts' es' is' head' live' =
      let same : h ≡ g = header_bytes-same h g is is' (sym head ∙ head') in
      let list : es ≡ es' = sym list_is ∙ bytes_live b starts' es' live' in
      let size : count ≡ length es' = counted ∙ ap length list in
      let rest : drop 64 mid ≡ drop 64 b ++ record_bytes (commit_record h.current_size) = ap (drop 64) made ∙ drop-append-le 64 b (record_bytes (commit_record h.current_size)) (let least = live.listed.log.least in omega (arith, least)) in
      let front : 0 + length (header_bytes now) ≡ 64 = omega (arith, length-header now) in
      let whole : committed_bytes ≡ header_bytes now ++ drop 64 mid = ap (λ (n : ℕ). header_bytes now ++ drop n mid) front in
      whole ∙ ap (λ (l : List ℕ). header_bytes now ++ l) rest ∙ sym (append_assoc (header_bytes now) (drop 64 b) (record_bytes (commit_record h.current_size)))
      ∙ ap (λ (x : Header). header_bytes (committed_header x (length mid) count) ++ drop 64 b ++ record_bytes (commit_record x.current_size)) same
      ∙ ap (λ (n : ℕ). header_bytes (committed_header g n count) ++ drop 64 b ++ record_bytes (commit_record g.current_size)) long_mid
      ∙ ap (λ (n : ℕ). header_bytes (committed_header g (length b + 24) n) ++ drop 64 b ++ record_bytes (commit_record g.current_size)) size

-- what may be left while the header is written over synced bytes
module _ (mid header : List ℕ) (d : DiskState) (durable : IsDurable d) (reads : Shows d → Reads d mid) where
  pub headers_there : 64 ≤ length mid → HaveHeaders d
  headers_there long file left =
      let same : file ≡ mid = cc (only_read d mid durable reads (Some file) left) in
      omega (arith, ap length same, long)

  pub old_or_new : (P : List ℕ → Type 0) → P mid → P (written_at 0 header mid) → (c : Image) → MayHaveHeader d header c → OnBytes P c
  old_or_new P old new c (inl left) = (mid, only_read d mid durable reads c left, old)
  old_or_new P old new c (inr made) =
      let same : made.0 ≡ mid = cc (only_read d mid durable reads (Some made.0) made.1) in
      (written_at 0 header mid, made.2 ∙ ap (λ (f : List ℕ). Some (written_at 0 header f)) same, new)
