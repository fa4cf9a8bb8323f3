-- The pointers of one level: where they are kept, and how a list is split and joined.
use Rattle.std.proofs.Common.{◌≡◌, ◌≢◌, ℕ, ◌+◌, List, [], ◌∷◌, ◌++◌, refl, sym, ◌∙◌, inl, inr}
use Rattle.skip_form.specs.Fields.{pointer_in}
use Rattle.skip_spec.specs.Rows.{IsAmong}
use Rattle.skip_spec.specs.Chain.{Entry}
use Rattle.skip_spec.specs.Change.{first_at, last_at}
use Rattle.skip_spec.specs.Opens.{Links}
use Rattle.skip_spec.proofs.Lists.{ats, last_among, Different}
use Rattle.skip_lists.specs.Levels.{LinksTo, LinksOn}

pub links_split : (b : List ℕ) (level at : ℕ) (fs gs : List Entry) → Links b level at (fs ++ gs) → LinksTo b level at fs × (pointer_in b (last_at at fs) (level + 1) ≡ first_at gs) × LinksOn b level gs
links_split b level at [] [] l = (record {}, l, record {})
links_split b level at [] (g ∷ gs) l = (record {}, l.0, l.1)
links_split b level at (f ∷ fs) gs l = let r = links_split b level f.at fs gs l.1 in ((l.0, r.0), r.1, r.2)

pub links_join : (b : List ℕ) (level at : ℕ) (fs gs : List Entry) → LinksTo b level at fs → pointer_in b (last_at at fs) (level + 1) ≡ first_at gs → LinksOn b level gs → Links b level at (fs ++ gs)
links_join b level at [] [] to last on = last
links_join b level at [] (g ∷ gs) to last on = (last, on)
links_join b level at (f ∷ fs) gs to last on = (to.0, links_join b level f.at fs gs to.1 last on)

-- where the pointers stay
pub links_stay : (b c : List ℕ) (level at : ℕ) (es : List Entry) → ((v : ℕ) → IsAmong (at ∷ ats es) v → pointer_in c v (level + 1) ≡ pointer_in b v (level + 1)) → Links b level at es → Links c level at es
links_stay b c level at [] same l = same at (inl refl) ∙ l
links_stay b c level at (e ∷ es) same l = (same at (inl refl) ∙ l.0, links_stay b c level e.at es (λ v m. same v (inr m)) l.1)

pub links_on_stay : (b c : List ℕ) (level : ℕ) (es : List Entry) → ((v : ℕ) → IsAmong (ats es) v → pointer_in c v (level + 1) ≡ pointer_in b v (level + 1)) → LinksOn b level es → LinksOn c level es
links_on_stay b c level [] same l = l
links_on_stay b c level (e ∷ es) same l = links_stay b c level e.at es same l

-- the pointer of the last one does not count
pub links_to_stay : (b c : List ℕ) (level at : ℕ) (es : List Entry) → Different (at ∷ ats es) → ((v : ℕ) → IsAmong (at ∷ ats es) v → v ≢ last_at at es → pointer_in c v (level + 1) ≡ pointer_in b v (level + 1)) → LinksTo b level at es → LinksTo c level at es
links_to_stay b c level at [] d same l = l
links_to_stay b c level at (e ∷ es) d same l =
    (same at (inl refl) (λ is. d.0 (last_at e.at es) (last_among e.at es) (sym is)) ∙ l.0, links_to_stay b c level e.at es d.1 (λ v m ne. same v (inr m) ne) l.1)

-- one record more, where the last one leads to it
pub links_to_more : (b : List ℕ) (level at : ℕ) (es : List Entry) (e : Entry) → LinksTo b level at es → pointer_in b (last_at at es) (level + 1) ≡ e.at → LinksTo b level at (es ++ e ∷ [])
links_to_more b level at [] e to last = (last, record {})
links_to_more b level at (f ∷ fs) e to last = (to.0, links_to_more b level f.at fs e to.1 last)

-- where the last one leads to the end
pub links_to_end : (b : List ℕ) (level at : ℕ) (es : List Entry) → LinksTo b level at es → pointer_in b (last_at at es) (level + 1) ≡ 0 → Links b level at es
links_to_end b level at [] to last = last
links_to_end b level at (e ∷ es) to last = (to.0, links_to_end b level e.at es to.1 last)

-- the last of a linked list leads to the end
pub links_end : (b : List ℕ) (level at : ℕ) (es : List Entry) → Links b level at es → pointer_in b (last_at at es) (level + 1) ≡ 0
links_end b level at [] l = l
links_end b level at (e ∷ es) l = links_end b level e.at es l.1
