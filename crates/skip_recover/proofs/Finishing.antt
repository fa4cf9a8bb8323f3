-- The cut, and the header that commits, on the disk.
use Rattle.std.proofs.Common.{◌≡◌, ℕ, ◌+◌, ◌*◌, ◌/◌, List, length, take, drop, Option, Some, refl, sym, ap, subst, ◌∙◌, inl, inr, arith}
use Rattle.std.specs.Prelude.{IsSome}
use Rattle.std.proofs.lemmas.List.{length-take, get_or-take, take_at}
use Rattle.base_bytes.specs.Landing.{written_at, Lands, Shortens}
use Rattle.base_bytes.specs.OrderedMap.{Map}
use Rattle.base_bytes.proofs.Landings.{lands_line, written_after, length-written}
use Rattle.base_devices.specs.CrashImages.{Image, DiskState, Shows, Reads, IsDurable}
use Rattle.base_devices.specs.DiskCalls.{Follows, OnFile, with_bytes}
use Rattle.skip_form.specs.declared.header.Header.{Header}
use Rattle.skip_form.specs.Spelling.{IsHeader, header_bytes}
use Rattle.skip_spec.specs.Chain.{pairs}
use Rattle.skip_spec.specs.Opens as opens
use Rattle.skip_spec.specs.Opens.{Contents, Tidy, Opens, with_dirty}
use Rattle.skip_spec.specs.Recovery.{clean_header, recovered, Recovers}
use Rattle.skip_spec.proofs.Cuts.{cut_near, dirty_image}
use Rattle.skip_spec.proofs.Kept.{reads_kept}
use Rattle.skip_spec.proofs.Meanings.{opens_one}
use Rattle.skip_spec.proofs.Unique.{reads_same}
use Rattle.skip_lists.specs.Repair.{IsLinked}
use Rattle.skip_lists.specs.Tie.{OnBytes, IsLeft, TiedToBase, LeavesMap}
use Rattle.skip_lists.proofs.Recovered.{linked_stays, linked_recovers}
use Rattle.skip_lists.proofs.Ties.{image_of, left_opens}

-- what a disk reads after its bytes change
pub reads_changed : (x y : Option Image) (change : List ℕ → List ℕ) (b : List ℕ) → x ≡ Some (Some b) → y ≡ with_bytes change x → y ≡ Some (Some (change b))
reads_changed x y change b is e = e ∙ ap (with_bytes change) is

clean_dirty : (h : Header) (count n : ℕ) → count ≡ n → clean_header (with_dirty h) count ≡ clean_header h n
clean_dirty h count n e =
    let f : (h.flags / 2 * 2 + 1) / 2 * 2 ≡ h.flags / 2 * 2 = omega arith in
    λ i. record h { num_records = e i; flags = f i }

module _ (base b : List ℕ) (says : Contents) (s : DiskState) (t : TiedToBase base says b s) where
  -- what the image reads
  abbrev pub dirty_says : Contents
  dirty_says = record says { header = with_dirty says.header }

  pub reads_here : opens.Reads b (record says { header = with_dirty says.header })
  reads_here = reads_kept base b says t.committed (image_of base b says s t)

  pub header_here : (h : Header) × IsHeader h × (take 64 b ≡ header_bytes h)
  header_here = (with_dirty says.header, reads_here.fields, reads_here.header)

  pub left_map : (c : Image) → s.leaves c → OnBytes (λ file. Opens file (pairs says.chain)) c
  left_map c left = left_opens base b says s t c (t.left c left)

  -- ---- the cut

  module _ (end : ℕ) (size : says.header.current_size ≡ end) where
    pub left_cut : (y : DiskState) → Follows (λ b c. Shortens b end c) s y → (c : Image) → y.leaves c → OnBytes (IsLeft base) c
    left_cut y follows c left =
        let from = follows.from c left in
        let old = t.left from.0 from.1 in
        let step = subst (λ (d : Image). OnFile (λ b c. Shortens b end c) d c) old.1 from.2 in
        (step.0, step.1, step_near old.0 step.0 old.2 step.2)
      where
        step_near : (b c : List ℕ) → IsLeft base b → Shortens b end c → IsLeft base c
        step_near b c is cut =
            let long = (dirty_image base says t.committed b is.0 is.1).long in
            subst (λ (x : List ℕ). IsLeft base x) cut.front (cut_near base b says (length c) t.committed is.0 is.1 (omega (arith, cut.no_shorter, size, long)))

    pub left_cut_map : (y : DiskState) → Follows (λ b c. Shortens b end c) s y → (c : Image) → y.leaves c → OnBytes (λ file. Opens file (pairs says.chain)) c
    left_cut_map y follows c left = left_opens base b says s t c (left_cut y follows c left)

    pub cut_tied : (y : DiskState) (new : List ℕ) → new ≡ take end b → ((c : Image) → y.leaves c → OnBytes (IsLeft base) c) → (Shows y → Reads y new) → TiedToBase base says new y
    cut_tied y new is left reads = record {
      committed = t.committed;
      sound = t.sound;
      own = subst (λ (x : List ℕ). IsLeft base x) (sym is) (cut_near base b says end t.committed t.own.0 t.own.1 (omega (arith, size)));
      reads = reads;
      left = left;
    }

    pub linked_cut : (new : List ℕ) → new ≡ take end b → IsLinked says b → IsLinked says new
    linked_cut new is l =
        let long = (image_of base b says s t).long in
        subst (λ (x : List ℕ). IsLinked says x) (sym is)
        (linked_stays base b (take end b) says t.committed (image_of base b says s t) (omega (arith, length-take end b, size, long)) (λ i lo lt. get_or-take end b i 0 (omega (arith, size, lt))) l)

    pub whole : (new : List ℕ) → new ≡ take end b → length new ≡ says.header.current_size
    whole new is = let long = (image_of base b says s t).long in omega (arith, ap length is, length-take end b, size, long)

  -- ---- the header

  module _ (l : IsLinked says b) (ends : length b ≡ says.header.current_size) (count : ℕ) (counted : count ≡ length says.chain) (header : List ℕ) (long : length header ≡ 64)
      (is : header ≡ header_bytes (clean_header (with_dirty says.header) count)) where
    pub finished : opens.Reads (written_at 0 header b) (recovered says) × Tidy (written_at 0 header b) (recovered says)
    finished =
        let least = t.committed.least in
        let size : length (written_at 0 header b) ≡ length b = omega (arith, length-written 0 header b (omega arith), long, ends, least) in
        let clean = ap header_bytes (clean_dirty says.header count (length says.chain) counted) in
        linked_recovers base b (written_at 0 header b) says t.committed (image_of base b says s t) (omega (arith, size, ends)) (λ i lo lt. written_after 0 header b i (omega (arith, ends, lt)) (omega (arith, long, lo))) l
        (omega (arith, size, ends)) (take_at header (drop (0 + length header) b) 64 long ∙ is ∙ clean)

    finished_opens : Opens (written_at 0 header b) (pairs says.chain)
    finished_opens = record { says = recovered says; reads = finished.0; map = refl; sound = inr finished.1 }

    pub left_finished : (y : DiskState) → IsDurable s → Follows (λ b c. Lands b 0 header c) s y → (c : Image) → y.leaves c → OnBytes (λ file. Opens file (pairs says.chain)) c
    left_finished y durable follows c left =
        let from = follows.from c left in
        let is_read = durable.only from.0 from.1 in
        let same : from.0 ≡ Some b = cc (is_read, t.reads (subst (λ (o : Option Image). IsSome o) (sym is_read) refl)) in
        let step = subst (λ (x : Image). OnFile (λ b c. Lands b 0 header c) x c) same from.2 in
        let least = t.committed.least in
        elim (lands_line 0 0 header b step.0 (omega arith) (omega (arith, long)) (omega (arith, long, ends, least)) step.2) [
          | inl old ↦ left_opens base b says s t c (step.0, step.1, subst (λ (x : List ℕ). IsLeft base x) (sym old) t.own)
          | inr new ↦ (step.0, step.1, subst (λ (x : List ℕ). Opens x (pairs says.chain)) (sym new) finished_opens)
        ]

  -- ---- the whole

  pub is_recovered : (new : List ℕ) → opens.Reads new (recovered says) × Tidy new (recovered says) → Recovers b new
  is_recovered new done =
      let same : (was : Contents) → opens.Reads b was → recovered was ≡ recovered says = λ was r.
      ap recovered (reads_same b was (record says { header = with_dirty says.header }) r reads_here)
      ∙ ap (λ (h : Header). let f : Contents = record says { header = h } in f) (clean_dirty says.header (length says.chain) (length says.chain) refl)
      in
      record {
        reads = λ was r. subst (λ (f : Contents). opens.Reads new f) (sym (same was r)) done.0;
        tidy = λ was r. subst (λ (f : Contents). Tidy new f) (sym (same was r)) done.1;
      }

  -- the map that it opens to is the base's
  same_map : (m : Map) → Opens b m → pairs says.chain ≡ m
  same_map m o =
      let mine : Opens b (pairs says.chain) = record { says = record says { header = with_dirty says.header }; reads = reads_here; map = refl; sound = inl (omega arith) } in
      opens_one b (pairs says.chain) m mine o

  pub moments_of : (m : Map) (x y : DiskState) → Opens b m → LeavesMap (pairs says.chain) x y → LeavesMap m x y
  moments_of m x y o leaves = subst (λ (n : Map). LeavesMap n x y) (same_map m o) leaves

  -- and what is linked by what it reads is linked by what the base says
  pub linked_here : (was : Contents) → opens.Reads b was → IsLinked was b → IsLinked says b
  linked_here was r l =
      let l = subst (λ (f : Contents). IsLinked f b) (reads_same b was (record says { header = with_dirty says.header }) r reads_here) l in
      record { tidy = l.tidy; levels = l.levels }
