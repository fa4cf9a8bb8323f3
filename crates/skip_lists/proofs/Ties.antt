-- A tie under permitted writes.
use Rattle.std.proofs.Common.{Some, ◌≡◌, ◌≤◌, ℕ, ◌+◌, ◌-◌, ◌++◌, List, length, take, drop, refl, sym, ap, subst, ◌∙◌, inr, true, arith, Option}
use Rattle.std.proofs.Math.Nat.{max-le}
use Rattle.std.proofs.lemmas.List.{take_all, drop_all, drop_at, append-nil, length-append, length-take}
use Rattle.base_bytes.specs.OrderedMap.{Map}
use Rattle.base_bytes.specs.Fields.{part}
use Rattle.base_bytes.specs.Landing.{written_at, Lands, Shortens}
use Rattle.base_bytes.proofs.Landings.{lands_whole}
use Rattle.base_devices.specs.CrashImages.{Image, DiskState, IsMoment, GoesOn, Shows, Reads}
use Rattle.base_devices.specs.DiskCalls.{DiskCall, OnFile, Follows, with_bytes}
use Rattle.base_devices.proofs.Moments.{each_then, first_call}
use Rattle.skip_form.specs.Flaws.{head_in}
use Rattle.skip_spec.specs.Records.{head_size_of}
use Rattle.skip_spec.specs.Chain.{pairs}
use Rattle.skip_spec.specs.Opens.{Contents, Opens}
use Rattle.skip_spec.specs.Near.{IsImageOf, IsPermittedWrite}
use Rattle.skip_spec.proofs.Cuts.{dirty_image, append_permitted}
use Rattle.skip_spec.proofs.Landed.{landing_near}
use Rattle.skip_spec.proofs.Meanings.{opens_alike}
use Rattle.skip_lists.specs.Heads.{HasSlots, SetsPointer, MaySet}
use Rattle.skip_lists.specs.Tie.{OnBytes, IsLeft, TiedToBase, TiedBy, LeavesEach, LeavesMap, IsUpTo, StaysUpTo}
use Rattle.skip_lists.proofs.Permitted.{set_permitted}
use Rattle.skip_lists.proofs.Setting.{set_as_written}

-- what a disk reads after a write
pub reads_written : (x y : Option Image) (at : ℕ) (bytes b : List ℕ) → x ≡ Some (Some b) → y ≡ with_bytes (written_at at bytes) x → y ≡ Some (Some (written_at at bytes b))
reads_written x y at bytes b is e = e ∙ ap (λ (o : Option Image). with_bytes (written_at at bytes) o) is

module _ (base b : List ℕ) (says : Contents) (s : DiskState) (t : TiedToBase base says b s) where
  pub image_of : IsImageOf base says b
  image_of = dirty_image base says t.committed b t.own.0 t.own.1

  -- an image that may be left opens to the base's map
  pub left_opens : (c : Image) → OnBytes (IsLeft base) c → OnBytes (λ file. Opens file (pairs says.chain)) c
  left_opens c is = (is.0, is.1, opens_alike base is.0 (pairs says.chain) (record { says = says; reads = t.committed; map = refl; sound = t.sound }) is.2.0)

  pub own_written : (at : ℕ) (bytes : List ℕ) → IsPermittedWrite base says at bytes → IsLeft base (written_at at bytes b)
  own_written at bytes w = landing_near base b (written_at at bytes b) says at bytes t.committed t.own.0 t.own.1 w (lands_whole at bytes b)

  -- what may be left after a permitted write
  pub left_after : (x y : DiskState) (at : ℕ) (bytes : List ℕ) → Follows (λ b c. Lands b at bytes c) x y → IsPermittedWrite base says at bytes → ((c : Image) → x.leaves c → OnBytes (IsLeft base) c) → (c : Image) → y.leaves c → OnBytes (IsLeft base) c
  left_after x y at bytes follows w all c is =
      let from = follows.from c is in
      let old = all from.0 from.1 in
      let step = subst (λ (d : Image). OnFile (λ b c. Lands b at bytes c) d c) old.1 from.2 in
      (step.0, step.1, landing_near base old.0 step.0 says at bytes t.committed old.2.0 old.2.1 w step.2)

  -- before any call
  pub still_leaves : IsMoment s → LeavesMap (pairs says.chain) s s
  still_leaves moment = record { each = λ i n left. let p = moment.now i n left in (p.1, left_opens i (t.left i p.0)) }

  -- one permitted write
  pub write_moments : (y : DiskState) (at : ℕ) (bytes : List ℕ) → IsPermittedWrite base says at bytes → DiskCall s y → Follows (λ b c. Lands b at bytes c) s y → LeavesMap (pairs says.chain) s y
  write_moments y at bytes w call follows = first_call s y (OnBytes (λ file. Opens file (pairs says.chain))) call (λ i left. left_opens i (t.left i left)) (λ i left. left_opens i (left_after s y at bytes follows w t.left i left))

  pub write_tied : (y : DiskState) (at : ℕ) (bytes new : List ℕ) → IsPermittedWrite base says at bytes → new ≡ written_at at bytes b → Follows (λ b c. Lands b at bytes c) s y → (Shows y → Reads y new) → TiedToBase base says new y
  write_tied y at bytes new w is follows reads = record {
    committed = t.committed;
    sound = t.sound;
    own = subst (λ (x : List ℕ). IsLeft base x) (sym is) (own_written at bytes w);
    reads = reads;
    left = left_after s y at bytes follows w t.left;
  }

-- a session that has changed something is tied to its base
pub tied_to_base : (base bytes : List ℕ) (says : Contents) (s : DiskState) → TiedBy base says bytes true s → TiedToBase base says bytes s
tied_to_base base bytes says s t = record {
  committed = t.committed;
  sound = inr t.tidy;
  own = t.own;
  reads = t.reads;
  left = λ c is. let x = t.left c is in (x.0, x.1, x.2.0);
}

-- ---- a pointer is set and its head written

module _ (base b c : List ℕ) (says : Contents) (s : DiskState) (t : TiedToBase base says b s) (p slot to : ℕ) (there : HasSlots b p) (may : MaySet base says b p slot to) (sets : SetsPointer b c p slot to) (long : length c ≡ length b)
    (bytes : List ℕ) (is : bytes ≡ part c p (head_size_of (head_in b p) - 4)) where
  permitted : IsPermittedWrite base says p bytes
  permitted = subst (λ (x : List ℕ). IsPermittedWrite base says p x) (sym is) (set_permitted base b c says t.committed (image_of base b says s t) p slot to there may sets long)

  pub pointer_moments : (y : DiskState) → DiskCall s y → Follows (λ b c. Lands b p bytes c) s y → LeavesMap (pairs says.chain) s y
  pointer_moments y call follows = write_moments base b says s t y p bytes permitted call follows

  pub pointer_tied : (y : DiskState) → Follows (λ b c. Lands b p bytes c) s y → (Shows y → Reads y c) → TiedToBase base says c y
  pointer_tied y follows reads = write_tied base b says s t y p bytes c permitted (set_as_written b c p slot to there may.inside sets long ∙ ap (λ (x : List ℕ). written_at p x b) (sym is)) follows reads

-- ---- a record is appended

pub written_end : (b added : List ℕ) → written_at (length b) added b ≡ b ++ added
written_end b added =
    ap (λ (l : List ℕ). l ++ added ++ drop (length b + length added) b) (take_all (length b) b (omega arith))
    ∙ ap (λ (l : List ℕ). b ++ added ++ l) (drop_all (length b + length added) b (omega arith))
    ∙ append-nil (b ++ added)

-- what stands past the old end
pub added_part : (b added c : List ℕ) (at n : ℕ) → c ≡ b ++ added → at ≡ length b → n ≡ length c - at → part c at n ≡ added
unfolding part
added_part b added c at n e is count =
    let long : n ≡ length added = omega (arith, count, is, ap length e, length-append b added) in
    ap (λ (l : List ℕ). take n (drop at l)) e ∙ ap (take n) (drop_at b added at (sym is)) ∙ take_all n added (omega (arith, long))

module _ (base b added c : List ℕ) (says : Contents) (s : DiskState) (t : TiedToBase base says b s) (is_c : c ≡ b ++ added) (at : ℕ) (is_at : at ≡ length b) (bytes : List ℕ) (is : bytes ≡ added) where
  past_end : IsPermittedWrite base says at bytes
  past_end = append_permitted base says at bytes t.committed (let i = image_of base b says s t in omega (arith, i.long, is_at))

  append_own : c ≡ written_at at bytes b
  append_own = is_c ∙ sym (written_end b added) ∙ ap (λ (n : ℕ). written_at n added b) (sym is_at) ∙ ap (λ (x : List ℕ). written_at at x b) (sym is)

  pub append_moments : (y : DiskState) → DiskCall s y → Follows (λ b c. Lands b at bytes c) s y → LeavesMap (pairs says.chain) s y
  append_moments y call follows = write_moments base b says s t y at bytes past_end call follows

  pub append_tied : (y : DiskState) → Follows (λ b c. Lands b at bytes c) s y → (Shows y → Reads y c) → TiedToBase base says c y
  append_tied y follows reads = write_tied base b says s t y at bytes c past_end append_own follows reads

-- ---- runs of calls

-- two runs, one after the other
pub then_each : (P : List ℕ → Type 0) (a b d : DiskState) → GoesOn a b → GoesOn b d → b.mark ≡ a.mark → LeavesEach P a b → LeavesEach P b d → LeavesEach P a d
then_each P a b d ab bd mark first second = each_then a b d (λ c n. (n ≡ a.mark) × OnBytes P c) ab bd first
    (record { each = λ c n left. let x = second.each c n left in (x.0 ∙ mark, x.1) })

pub then_leaves : (m : Map) (a b d : DiskState) → GoesOn a b → GoesOn b d → b.mark ≡ a.mark → LeavesMap m a b → LeavesMap m b d → LeavesMap m a d
then_leaves m a b d ab bd mark first second = then_each (λ file. Opens file m) a b d ab bd mark first second

pub then_up_to : (most : ℕ) (a b d : DiskState) → GoesOn a b → GoesOn b d → b.mark ≡ a.mark → StaysUpTo most a b → StaysUpTo most b d → StaysUpTo most a d
then_up_to most a b d ab bd mark first second start =
    let one = first start in
    let two = second one.0 in (two.0, then_each (λ file. length file ≤ most) a b d ab bd mark one.1 two.1)

-- a call after which nothing else may be left
pub same_up_to : (most : ℕ) (s y : DiskState) → DiskCall s y → ((c : Image) → y.leaves c → s.leaves c) → StaysUpTo most s y
same_up_to most s y call from start =
    let after : IsUpTo most y = λ c left. start c (from c left) in
    (after, first_call s y (OnBytes (λ file. length file ≤ most)) call start after)

-- a write that ends by then
pub write_up_to : (most : ℕ) (s y : DiskState) (at : ℕ) (bytes : List ℕ) → at + length bytes ≤ most → DiskCall s y → Follows (λ b c. Lands b at bytes c) s y → StaysUpTo most s y
write_up_to most s y at bytes ends call follows start =
    let after : IsUpTo most y = λ c left.
    let from = follows.from c left in
    let old = start from.0 from.1 in
    let step = subst (λ (d : Image). OnFile (λ b c. Lands b at bytes c) d c) old.1 from.2 in
    (step.0, step.1, omega (arith, step.2.no_longer, max-le old.2 ends))
    in
    (after, first_call s y (OnBytes (λ file. length file ≤ most)) call start after)

-- a cut
pub cut_up_to : (most : ℕ) (s y : DiskState) (to : ℕ) → DiskCall s y → Follows (λ b c. Shortens b to c) s y → StaysUpTo most s y
cut_up_to most s y to call follows start =
    let after : IsUpTo most y = λ c left.
    let from = follows.from c left in
    let old = start from.0 from.1 in
    let step = subst (λ (d : Image). OnFile (λ b c. Shortens b to c) d c) old.1 from.2 in
    (step.0, step.1, omega (arith, ap length step.2.front, length-take (length step.0) old.0, old.2))
    in
    (after, first_call s y (OnBytes (λ file. length file ≤ most)) call start after)
