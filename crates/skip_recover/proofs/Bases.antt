-- The heads of a base, in an image of it that is tied to a disk.
use Rattle.std.proofs.Common.{◌≡◌, ℕ, ◌≤◌, List, ◌∷◌, None, refl, ap, subst, inl, inr, arith}
use Rattle.base_devices.specs.CrashImages.{DiskState}
use Rattle.skip_form.specs.declared.head.Head.{Head}
use Rattle.skip_form.specs.Flaws.{head_flaw, head_in}
use Rattle.skip_form.specs.Spelling.{StandsAt}
use Rattle.skip_form.proofs.HeadLemmas.{head_flaw-StandsAt}
use Rattle.skip_spec.specs.Rows.{IsAmong}
use Rattle.skip_spec.specs.Opens.{Contents}
use Rattle.skip_spec.specs.Near.{heads}
use Rattle.skip_spec.specs.Live.{HasLog}
use Rattle.skip_spec.proofs.Kept.{row_at, head_kept}
use Rattle.skip_spec.proofs.Places.{head_is}
use Rattle.skip_spec.proofs.SameLog.{head_of_log}
use Rattle.skip_lists.specs.Heads.{HasSlots}
use Rattle.skip_lists.specs.Tie.{TiedToBase}
use Rattle.skip_lists.proofs.Frames.{has_slots}
use Rattle.skip_lists.proofs.Recovered.{image_log}
use Rattle.skip_lists.proofs.Ties.{image_of}
use Rattle.skip_recover.specs.Heads.{HasSlot}

pub dummy_head : (says : Contents) → IsAmong (heads says) 64
dummy_head says = inl refl

module _ (base b : List ℕ) (says : Contents) (s : DiskState) (t : TiedToBase base says b s) where
  pub log : HasLog b says.starts says.chain says.header.current_size
  log = image_log base b says t.committed (image_of base b says s t)

  pub slots_of : (h : ℕ) → IsAmong (heads says) h → HasSlots b h
  slots_of h m = has_slots b says.starts says.chain says.header.current_size log h m

  pub stands : (h : ℕ) → IsAmong (heads says) h → StandsAt b h (head_in b h)
  stands h m = at_place h (head_of_log b says.starts says.chain says.header.current_size log h m).0
    where
      at_place : (v : ℕ) → IsAmong (64 ∷ says.starts) v → StandsAt b v (head_in b v)
      at_place v (inl e) = subst (λ (w : ℕ). StandsAt b w (head_in b w)) e log.dummy
      at_place v (inr m) = row_at b 336 says.starts says.header.current_size v log.rows m

  pub no_flaw : (h : ℕ) → IsAmong (heads says) h → head_flaw b h ≡ None
  no_flaw h m = (head_flaw-StandsAt b h (head_in b h) (stands h m)).0

  -- the base's heads have their levels
  pub same_level : (h : ℕ) → IsAmong (heads says) h → (head_in b h).level ≡ (head_in base h).level
  same_level h m = ap (λ (x : Head). x.level) (head_kept base b says t.committed (image_of base b says s t) h (head_is base says t.committed h m).0)

  pub has_one : (h : ℕ) → IsAmong (heads says) h → 1 ≤ (head_in base h).level
  has_one h m = let low = (slots_of h m).low in omega (arith, low, same_level h m)

  pub has_few : (h : ℕ) → IsAmong (heads says) h → (head_in base h).level ≤ 31
  has_few h m = let high = (slots_of h m).high in omega (arith, high, same_level h m)

  pub slot_here : (h slot : ℕ) → HasSlot base says h slot → slot ≤ (head_in b h).level
  slot_here h slot has = omega (arith, has.1, same_level h has.0)
