-- A header is written over: what may be left then, and what the bytes say.
use Rattle.std.proofs.Common.{◌≡◌, ℕ, ◌<◌, ◌≤◌, true, false, Some, None, Option, List, length, take, get_or, refl, sym, ap, subst, ◌∙◌, inl, inr, arith}
use Rattle.std.specs.Prelude.{IsSome}
use Rattle.base_bytes.specs.Fields.{part}
use Rattle.base_bytes.specs.Landing.{written_at, Lands}
use Rattle.base_bytes.proofs.Landings.{written_after, length-written, lands_line}
use Rattle.base_devices.specs.CrashImages.{Image, DiskState, GoesOn, Shows, Reads, IsAbsent, IsDurable}
use Rattle.base_devices.specs.DiskCalls.{OnFile, Follows, with_bytes}
use Rattle.skip_form.specs.declared.header.Header.{Header}
use Rattle.skip_form.specs.Spelling.{header_bytes}
use Rattle.skip_form.specs.Fields.{pointer_in}
use Rattle.skip_spec.specs.Chain.{Entry, pairs}
use Rattle.skip_spec.specs.Opens as opens
use Rattle.skip_spec.specs.Opens.{Contents, Tidy, Opens, with_dirty}
use Rattle.skip_spec.specs.Live.{Live}
use Rattle.skip_spec.proofs.Cuts.{image_near}
use Rattle.skip_spec.proofs.Kept.{free_slot_le}
use Rattle.skip_spec.proofs.Lives.{bytes_live}
use Rattle.skip_spec.proofs.Meanings.{opens_alike}
use Rattle.skip_spec.proofs.SameLog.{log_of_file, level_range, same_slot, live_stays, tidy_live}
use Rattle.skip_lists.specs.Tie.{OnBytes, IsLeft, TiedBy, AreKnown}
use Rattle.skip_lists.proofs.Setting.{written_part}
use Rattle.skip_lists.proofs.Ties.{reads_written}
use Rattle.skip_change.specs.Headers.{HaveHeaders, MayHaveHeader}

pub length-header : (h : Header) → length (header_bytes h) ≡ 64
unfolding header_bytes
length-header h = refl

-- ---- on the disk

-- a file that was written is there
pub still_there : (a b : DiskState) (at : ℕ) (bytes file : List ℕ) → (Shows a → Reads a file) → GoesOn a b → b.reads ≡ with_bytes (written_at at bytes) a.reads → IsAbsent b → ⊥
still_there a b at bytes file reads on is absent =
    let shown : Shows b = subst (λ (o : Option Image). IsSome o) (sym absent) refl in
    let there = reads_written a.reads b.reads at bytes file (reads (on.telling.0 shown)) is in
    absurd (cc (there, absent))

-- what a synced file reads is all that may be left
pub only_read : (s : DiskState) (file : List ℕ) → IsDurable s → (Shows s → Reads s file) → (c : Image) → s.leaves c → c ≡ Some file
only_read s file durable reads c left =
    let is = durable.only c left in
    cc (is, reads (subst (λ (o : Option Image). IsSome o) (sym is) refl))

-- a header lands whole or not at all
pub header_lands : (x y : DiskState) (header : List ℕ) → length header ≡ 64 → HaveHeaders x → Follows (λ b c. Lands b 0 header c) x y → (c : Image) → y.leaves c → MayHaveHeader x header c
header_lands x y header long have follows c left = of (follows.from c left).0 (follows.from c left).1 (follows.from c left).2
  where
    of : (d : Image) → x.leaves d → OnFile (λ b c. Lands b 0 header c) d c → MayHaveHeader x header c
    of None old f = inl (subst (λ (i : Image). x.leaves i) (sym f) old)
    of (Some b) old f = elim (lands_line 0 0 header b f.0 (omega arith) (omega (arith, long)) (omega (arith, long, have b old)) f.2) [
      | inl same ↦ inl (subst (λ (i : Image). x.leaves i) (ap (λ (l : List ℕ). Some l) (sym same) ∙ sym f.1) old)
      | inr new ↦ inr (b, old, f.1 ∙ ap (λ (l : List ℕ). Some l) new)
    ]

-- ---- in the bytes

module _ (b : List ℕ) (h : Header) (long : 64 ≤ length b) where
  pub length-headed : length (written_at 0 (header_bytes h) b) ≡ length b
  length-headed = let n = length-written 0 (header_bytes h) b (omega arith) in omega (arith, n, length-header h, long)

  pub headed : take 64 (written_at 0 (header_bytes h) b) ≡ header_bytes h
  unfolding part
  headed = written_part 0 (header_bytes h) b 64 (length-header h) (omega (arith, long))

  pub past_header : (i : ℕ) → 64 ≤ i → i < length b → get_or (written_at 0 (header_bytes h) b) i 0 ≡ get_or b i 0
  past_header i le lt = written_after 0 (header_bytes h) b i lt (omega (arith, length-header h, le))

  pub live_headed : (starts : List ℕ) (es : List Entry) → Live b starts es → Live (written_at 0 (header_bytes h) b) starts es
  live_headed starts es l = live_stays b (written_at 0 (header_bytes h) b) starts es l length-headed past_header

-- ---- the first change

module _ (base : List ℕ) (says : Contents) (r : opens.Reads base says) where
  abbrev dirty : List ℕ
  dirty = written_at 0 (header_bytes (with_dirty says.header)) base

  pub base_long : 64 ≤ length base
  base_long = omega (arith, r.least, r.inside)

  pub dirty_left : IsLeft base dirty
  dirty_left =
      let log = log_of_file base says r in
      let long = length-headed base (with_dirty says.header) base_long in
      let inside : says.header.current_size ≤ length dirty = omega (arith, r.inside, long) in
      let same : (i : ℕ) → 64 ≤ i → i < says.header.current_size → get_or dirty i 0 ≡ get_or base i 0 = λ i le lt. past_header base (with_dirty says.header) base_long i le (omega (arith, lt, r.inside)) in
      image_near base says r dirty (record {
        header = headed base (with_dirty says.header) base_long;
        long = inside;
        slots = λ at m slot free. inl (
            let level = level_range base says.starts says.chain says.header.current_size log at m in
            same_slot base dirty says.starts says.chain says.header.current_size log inside same at slot m (omega (arith, free, free_slot_le says.header.current_size (pointer_in base at 0) (pointer_in base at 1), level.0)));
        others = λ i le lt fixed. same i le lt;
      })

module _ (base b : List ℕ) (says : Contents) (d : DiskState) (t : TiedBy base says b false d) where
  base_opens : Opens base (pairs says.chain)
  base_opens = record { says = says; reads = t.committed; map = refl; sound = inr t.tidy }

  pub have_headers : HaveHeaders d
  have_headers file left =
      let is = t.left (Some file) left in
      let same : file ≡ base = cc (is.1, is.2.0) in
      omega (arith, ap length same, base_long base says t.committed)

  pub own_dirty : (header : List ℕ) → header ≡ header_bytes (with_dirty says.header) → IsLeft base (written_at 0 header b)
  own_dirty header e = subst (λ (x : List ℕ). IsLeft base x) (sym (ap (λ (x : List ℕ). written_at 0 x b) e ∙ ap (λ (x : List ℕ). written_at 0 (header_bytes (with_dirty says.header)) x) t.own)) (dirty_left base says t.committed)

  pub begun_opens : (header : List ℕ) → header ≡ header_bytes (with_dirty says.header) → (c : Image) → MayHaveHeader d header c → OnBytes (λ file. Opens file (pairs says.chain)) c
  begun_opens header e c (inl left) =
      let is = t.left c left in
      (is.0, is.1, subst (λ (x : List ℕ). Opens x (pairs says.chain)) (sym is.2.0) base_opens)
  begun_opens header e c (inr new) =
      let is = t.left (Some new.0) new.1 in
      let same : new.0 ≡ b = cc (is.1, is.2.0, t.own) in
      (written_at 0 header new.0, new.2, subst (λ (x : List ℕ). Opens (written_at 0 header x) (pairs says.chain)) (sym same) (opens_alike base (written_at 0 header b) (pairs says.chain) base_opens (own_dirty header e).0))

  -- after the first change
  pub begun_tied : (header new : List ℕ) (after : DiskState) → header ≡ header_bytes (with_dirty says.header) → new ≡ written_at 0 header b → IsDurable after → (Shows after → Reads after new) → TiedBy base says new true after
  begun_tied header new after e is durable reads =
      let own : IsLeft base new = subst (λ (x : List ℕ). IsLeft base x) (sym is) (own_dirty header e) in
      let old = tidy_live base says t.committed t.tidy in
      let live : Live new says.starts says.chain = subst (λ (x : List ℕ). Live x says.starts says.chain) (sym (is ∙ ap (λ (x : List ℕ). written_at 0 x b) e ∙ ap (λ (x : List ℕ). written_at 0 (header_bytes (with_dirty says.header)) x) t.own)) (live_headed base (with_dirty says.header) (base_long base says t.committed) says.starts says.chain old) in
      record {
        committed = t.committed;
        tidy = t.tidy;
        own = own;
        known = subst (λ (l : List Entry). AreKnown says l) (sym (bytes_live new says.starts says.chain live)) (λ at m lt. m);
        reads = reads;
        left = λ c left. (new, only_read after new durable reads c left, (own, omega arith));
      }
