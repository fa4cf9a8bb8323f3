-- The next live record of a walk, and where the walk stands.
use Rattle.std.proofs.Common.{◌≡◌, ◌≢◌, ◌<◌, ◌≤◌, ℕ, ◌+◌, List, ◌∷◌, [], ◌++◌, get_or, length, sym, ap, subst, ◌∙◌, arith}
use Rattle.base_devices.specs.CrashImages.{DiskState}
use Rattle.skip_form.specs.declared.head.Head.{Head}
use Rattle.skip_form.specs.Fields.{pointer_in}
use Rattle.skip_form.specs.Flaws.{head_in}
use Rattle.skip_spec.specs.Rows.{IsAmong}
use Rattle.skip_spec.specs.Chain.{Entry}
use Rattle.skip_spec.specs.Change.{first_at, last_at}
use Rattle.skip_spec.specs.Successor.{successor_under}
use Rattle.skip_spec.specs.Opens.{Contents, IsTidyHead}
use Rattle.skip_spec.specs.Near.{heads}
use Rattle.skip_lists.specs.Repair.{IsLinked}
use Rattle.skip_lists.specs.Tie.{TiedToBase}
use Rattle.skip_image.specs.Image.{CanStep}
use Rattle.skip_recover.specs.Heads.{HaveSlots, LeadsLast, Mended}
use Rattle.skip_recover.specs.Walks.{IsUnderWay}
use Rattle.skip_recover.proofs.Bases.{log, same_level, has_few}
use Rattle.skip_recover.proofs.Nexts.{can_step}
use Rattle.skip_recover.proofs.Walking.{next_head, next_level, have_slots, walked_on, leads_next, next_here, ends_here, head_here, count_below, one_left}

module _ (base : List ℕ) (says : Contents) (file : List ℕ) (d : DiskState) (last : List ℕ) (passed : List Entry) (e : Entry) (left : List Entry) (end : ℕ) (u : IsUnderWay base says file d last passed (e ∷ left) end) (at : ℕ) (is : e.at ≡ at) where
  pub known_at : IsAmong (heads says) at
  known_at = subst (λ (v : ℕ). IsAmong (heads says) v) is (next_head base file says d u.tied last passed e left u.walked)

  pub level_at : (head : Head) (bytes : List ℕ) → head ≡ head_in bytes at → bytes ≡ file → head.level ≡ e.level
  level_at head bytes h b =
      ap (λ (x : Head). x.level) h ∙ ap (λ (x : List ℕ). (head_in x at).level) b
      ∙ same_level base file says d u.tied at known_at
      ∙ ap (λ (v : ℕ). (head_in base v).level) (sym is)
      ∙ next_level base file says d u.tied last passed e left u.walked

  pub high_at : (height : ℕ) → height ≡ e.level → height ≤ 31
  high_at height h =
      let top = has_few base file says d u.tied e.at (next_head base file says d u.tied last passed e left u.walked) in
      omega (arith, h, top, next_level base file says d u.tied last passed e left u.walked)

  pub have_at : (height : ℕ) → height ≡ e.level → HaveSlots base says last height
  have_at height h = have_slots base file says d u.tied last passed (e ∷ left) u.walked height (high_at height h)

  pub passed_on : (mid new last' : List ℕ) (d' : DiskState) (height : ℕ) → height ≡ e.level → TiedToBase base says new d' → LeadsLast base says file mid last height at → Mended base says mid new end at
      → ((i : ℕ) → i < height → get_or last' i 0 ≡ at) → ((i : ℕ) → height ≤ i → i ≤ 30 → get_or last' i 0 ≡ get_or last i 0) → IsUnderWay base says new d' last' (passed ++ e ∷ []) left end
  passed_on mid new last' d' height h t l m below above = record {
    tied = t;
    walked = walked_on base file says d u.tied mid new last last' passed e left u.walked
        (subst (λ (v : ℕ). LeadsLast base says file mid last e.level v) (sym is) (subst (λ (n : ℕ). LeadsLast base says file mid last n at) h l))
        (subst (λ (n : ℕ). Mended base says mid new n e.at) (sym u.size) (subst (λ (v : ℕ). Mended base says mid new end v) (sym is) m))
        (λ i lt. below i (omega (arith, h, lt)) ∙ sym is)
        (λ i le top. above i (omega (arith, h, le)) top);
    size = u.size;
  }

  -- where all is linked already
  pub leads_at : IsLinked says file → (height : ℕ) → height ≡ e.level → (i : ℕ) → 1 ≤ i → i < height → pointer_in file (get_or last i 0) (i + 1) ≡ at
  leads_at l height h i lo lt = leads_next base file says d u.tied last passed e left u.walked l i lo (omega (arith, high_at height h, lt)) (omega (arith, h, lt)) ∙ is

  pub tidy_at : IsLinked says file → (mid : List ℕ) → mid ≡ file → IsTidyHead mid end at
  tidy_at l mid same = subst (λ (x : List ℕ). IsTidyHead x end at) (sym same) (subst (λ (n : ℕ). IsTidyHead file n at) u.size (l.tidy at known_at))

-- where the walk stands
abbrev pub Stands : List ℕ → Contents → List ℕ → DiskState → List ℕ → ℕ → ℕ → ℕ → Type 0
Stands base says file d last at count end = (passed : List Entry) × (left : List Entry) × IsUnderWay base says file d last passed left end × (at ≡ last_at 64 passed) × (count ≡ length passed)

module _ (base : List ℕ) (says : Contents) (file : List ℕ) (d : DiskState) (last : List ℕ) (at count end : ℕ) (s : Stands base says file d last at count end) where
  pub steps_on : CanStep file end at
  steps_on =
      let u = s.2 in
      let head = head_here base file says d u.tied last s.0 s.1 u.walked in
      subst (λ (n : ℕ). CanStep file n at) u.size (subst (λ (v : ℕ). CanStep file says.header.current_size v) (sym s.3)
      (can_step file says.starts says.chain says.header.current_size (log base file says d u.tied) (last_at 64 s.0) head))

  pub next_at : (next : ℕ) → next ≡ successor_under file end at → next ≡ first_at s.1
  next_at next is =
      let u = s.2 in
      is ∙ ap (λ (n : ℕ). successor_under file n at) (sym u.size) ∙ ap (λ (v : ℕ). successor_under file says.header.current_size v) s.3
      ∙ next_here base file says d u.tied last s.0 s.1 u.walked

  -- the next record, where there is one
  pub turn : (next : ℕ) → next ≡ successor_under file end at → next ≢ 0 → (e : Entry) × (rest : List Entry) × IsUnderWay base says file d last s.0 (e ∷ rest) end × (e.at ≡ next)
  turn next is some =
      let u = s.2 in
      let first = next_at next is in
      let x = one_left base file says d u.tied s.1 (λ z. some (first ∙ z)) in
      (x.0, x.1, subst (λ (es : List Entry). IsUnderWay base says file d last s.0 es end) x.2 u, sym (first ∙ ap first_at x.2))

  pub all_have : HaveSlots base says last 31
  all_have = let u = s.2 in have_slots base file says d u.tied last s.0 s.1 u.walked 31 (omega arith)

  pub none : (next : ℕ) → next ≡ successor_under file end at → next ≡ 0 → s.1 ≡ []
  none next is z = let u = s.2 in ends_here base file says d u.tied last s.0 s.1 u.walked (sym (next_at next is) ∙ z)

  pub below : count < end
  below = let u = s.2 in omega (arith, count_below base file says d u.tied last s.0 s.1 u.walked, s.4, u.size)
