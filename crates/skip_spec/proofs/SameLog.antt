-- Two files with the same bytes from the header on, up to an end, have the same log.
use Rattle.std.proofs.Common.{◌≡◌, ◌≢◌, ℕ, ◌+◌, ◌-◌, ◌*◌, ◌/◌, ◌%◌, ◌<◌, ◌≤◌, List, [], ◌∷◌, length, get_or, map, refl, sym, ap, subst, ◌∙◌, inl, inr, arith, ◌⊎◌}
use Rattle.check_word.specs.CheckWord.{check_word}
use Rattle.base_bytes.specs.Fields.{part, u32_in, u64_in}
use Rattle.skip_form.specs.declared.head.Head.{Head}
use Rattle.skip_form.specs.declared.head.Kind.TheVariants.{Dummy, Put}
use Rattle.skip_form.specs.Fields.{pointer_in}
use Rattle.skip_form.specs.Flaws.{head_in}
use Rattle.skip_form.specs.Spelling.{StandsAt, IsLevelOf}
use Rattle.skip_spec.specs.Records.{HasKind, HeadCheckIsRight, head_size_of}
use Rattle.skip_spec.specs.Rows.{IsAmong}
use Rattle.skip_spec.specs.Successor.{IsGreatestUnder}
use Rattle.skip_spec.specs.Chain.{Entry, Chain}
use Rattle.skip_spec.specs.Change.{heads_of}
use Rattle.skip_spec.specs.Opens.{Contents, Reads, Tidy, with_dirty, IsTidyHead, Links, on_level}
use Rattle.skip_spec.specs.Recovery.{recovered}
use Rattle.skip_spec.specs.Live.{HasLog, Live, IsCommitted}
use Rattle.std.proofs.lemmas.Bool.{cases_lt}
use Rattle.skip_spec.proofs.Lists.{ats, all_of_each, each_of_all, level_head, on_level-in, on_level-out}
use Rattle.skip_spec.proofs.KindLemmas.{dummy_level}
use Rattle.skip_spec.proofs.Kept.{row_at, rows_kept, stands_kept}
use Rattle.skip_spec.proofs.Places.{Laid, Within, within, laid_dummy, laid-rows, in_chain, dummy_stands}
use Rattle.skip_spec.proofs.Splice.{Holds, Includes, agree, head_stays, tail_stays, chain_stays}

-- ---- a log as it stands

module _ (b starts : List ℕ) (es : List Entry) (end : ℕ) (l : HasLog b starts es end) where
  pub laid_log : Laid b 64 (64 ∷ starts) end
  laid_log = laid_dummy b starts end l.dummy l.rows

  pub head_of_log : (h : ℕ) → IsAmong (heads_of es) h → IsAmong (64 ∷ starts) h × (HasKind b h Dummy ⊎ HasKind b h Put)
  head_of_log h (inl e) = (inl e, inl (subst (λ (w : ℕ). HasKind b w Dummy) e (dummy_stands b l.dummy)))
  head_of_log h (inr m) = let c = in_chain b end starts 64 [] es h l.chain m in (inr c.0, inr c.1)

  pub span_of : (v : ℕ) → IsAmong (64 ∷ starts) v → Within b 64 end v
  span_of v m = within b 64 (64 ∷ starts) end v laid_log m

  pub high_in_log : (v : ℕ) → IsAmong starts v → 336 ≤ v
  high_in_log v m = (within b 336 starts end v (laid-rows b 336 starts end l.rows) m).low

  -- the levels that a head may have
  pub level_range : (h : ℕ) → IsAmong (heads_of es) h → (1 ≤ (head_in b h).level) × ((head_in b h).level ≤ 31)
  level_range h (inl e) =
      let tall = dummy_level (head_in b 64) l.dummy.head (dummy_stands b l.dummy) in
      subst (λ (w : ℕ). (1 ≤ (head_in b w).level) × ((head_in b w).level ≤ 31)) e (omega (arith, tall), omega (arith, tall))
  level_range h (inr m) =
      let c = in_chain b end starts 64 [] es h l.chain m in
      let is = row_at b 336 starts end h l.rows c.0 in
      subst (λ k. IsLevelOf k (head_in b h).level) c.1 is.head.level

-- the levels that the records of a list have
chain_tall : (b : List ℕ) (bound : ℕ) (starts : List ℕ) (at : ℕ) (k : List ℕ) (es : List Entry) (level v : ℕ) → Chain b bound starts at k es → IsAmong (ats (on_level level es)) v → level < (head_in b v).level
chain_tall b bound starts at k [] level v ch m = absurd m
chain_tall b bound starts at k (e ∷ es) level v ch m = elim (cases_lt level e.level) [
  | inl lt ↦ elim (subst (λ (l : List Entry). IsAmong (ats l) v) (on_level-in level e es lt) m) [
    | inl is ↦ subst (λ (w : ℕ). level < (head_in b w).level) is (omega (arith, lt, ch.1.level))
    | inr n ↦ chain_tall b bound starts e.at e.key es level v ch.3 n
  ]
  | inr le ↦ chain_tall b bound starts e.at e.key es level v ch.3 (subst (λ (l : List Entry). IsAmong (ats l) v) (on_level-out level e es le) m)
]

-- a head that a level links has a pointer of that level
pub tall : (b starts : List ℕ) (es : List Entry) (end : ℕ) → HasLog b starts es end → (level v : ℕ) → level ≤ 30 → IsAmong (64 ∷ ats (on_level level es)) v → level + 1 ≤ (head_in b v).level
tall b starts es end l level v le (inl e) = subst (λ (w : ℕ). level + 1 ≤ (head_in b w).level) e (omega (arith, le, dummy_level (head_in b 64) l.dummy.head (dummy_stands b l.dummy)))
tall b starts es end l level v le (inr m) = let t = chain_tall b end starts 64 [] es level v l.chain m in omega (arith, t)

-- ---- the other file

module _ (b c starts : List ℕ) (es : List Entry) (end : ℕ) (l : HasLog b starts es end) (inside : end ≤ length c) (same : (i : ℕ) → 64 ≤ i → i < end → get_or c i 0 ≡ get_or b i 0) where
  grown : Includes starts starts
  grown v m = m

  no_heads : Holds b c starts end []
  no_heads = record { laid = laid_log b starts es end l; rows = l.rows; heads = λ h m. absurd m; long_b = l.inside; long_c = inside; others = λ i lo lt all. same i lo lt }

  all_heads : Holds b c starts end (heads_of es)
  all_heads = record { laid = laid_log b starts es end l; rows = l.rows; heads = head_of_log b starts es end l; long_b = l.inside; long_c = inside; others = λ i lo lt all. same i lo lt }

  part_here : (v from count : ℕ) → IsAmong (64 ∷ starts) v → v ≤ from → from + count ≤ v + (head_in b v).size → part c from count ≡ part b from count
  part_here v from count m lo hi = agree b c starts starts end [] no_heads grown v from count m lo hi (λ i l h is. absurd is)

  pub same_head : (v : ℕ) → IsAmong (64 ∷ starts) v → head_in c v ≡ head_in b v
  same_head v m = head_stays b c starts starts end [] no_heads grown v m

  pub same_slot : (h i : ℕ) → IsAmong (heads_of es) h → i ≤ (head_in b h).level → pointer_in c h i ≡ pointer_in b h i
  same_slot h i m le = ap u64_in (part_here h (h + 8 + 8 * i) 8 (head_of_log b starts es end l h m).0 (omega arith) (omega (arith, le)))

  same_check : (h : ℕ) → IsAmong (heads_of es) h → HeadCheckIsRight b h → HeadCheckIsRight c h
  same_check h m old =
      let place = (head_of_log b starts es end l h m).0 in
      subst (λ (t : Head). u32_in (part c (h + (head_size_of t - 8)) 4) ≡ check_word (part c h (head_size_of t - 8))) (sym (same_head h place))
      (ap u32_in (part_here h (h + (head_size_of (head_in b h) - 8)) 4 place (omega arith) (omega arith)) ∙ old ∙ sym (ap check_word (part_here h h (head_size_of (head_in b h) - 8) place (omega arith) (omega arith))))

  stands_now : (v : ℕ) → IsAmong (64 ∷ starts) v → StandsAt b v (head_in b v) → StandsAt c v (head_in c v)
  stands_now v m is = stands_kept b c v (same_head v m) (part_here v v 8 m (omega arith) (omega arith)) (omega (arith, (span_of b starts es end l v m).high, inside)) is

  pointers : (h v : ℕ) → IsAmong (heads_of es) h → h ≢ 0 → IsGreatestUnder end (pointer_in b h 0) (pointer_in b h 1) v → IsGreatestUnder end (pointer_in c h 0) (pointer_in c h 1) v
  pointers h v m ne old =
      let range = level_range b starts es end l h m in
      subst (λ (x : ℕ). IsGreatestUnder end x (pointer_in c h 1) v) (sym (same_slot h 0 m (omega arith)))
      (subst (λ (y : ℕ). IsGreatestUnder end (pointer_in b h 0) y v) (sym (same_slot h 1 m range.0)) old)

  some : (v : ℕ) → IsAmong (map (λ e. e.at) es) v → v ≢ 0
  some v m z = let high = high_in_log b starts es end l v (in_chain b end starts 64 [] es v l.chain m).0 in omega (arith, high, z)

  pub log_stays : HasLog c starts es end
  log_stays = record {
    least = l.least;
    inside = inside;
    dummy = stands_now 64 (inl refl) l.dummy;
    dummy_tail = tail_stays b c starts starts end [] no_heads grown 64 (inl refl) l.dummy_tail;
    rows = rows_kept b c 336 starts end l.rows (λ v m. (same_head v (inr m), stands_now v (inr m) (row_at b 336 starts end v l.rows m)));
    chain = chain_stays b c starts starts end (heads_of es) all_heads grown end end 0 pointers 64 [] es (inl refl) (λ e. omega (arith, e)) (λ v m. (inr m, some v m)) l.chain;
  }

  pub tidy_stays : (h : ℕ) → IsAmong (heads_of es) h → IsTidyHead b end h → IsTidyHead c end h
  tidy_stays h m t =
      let range = level_range b starts es end l h m in
      (omega (arith, same_slot h 0 m (omega arith), t.0), omega (arith, same_slot h 1 m range.0, t.1), same_check h m t.2)

  links_same : (level at : ℕ) (fs : List Entry) → ((v : ℕ) → IsAmong (at ∷ ats fs) v → IsAmong (heads_of es) v × (level + 1 ≤ (head_in b v).level)) → Links b level at fs → Links c level at fs
  links_same level at [] all k = let is = all at (inl refl) in same_slot at (level + 1) is.0 is.1 ∙ k
  links_same level at (e ∷ fs) all k = let is = all at (inl refl) in (same_slot at (level + 1) is.0 is.1 ∙ k.0, links_same level e.at fs (λ v m. all v (inr m)) k.1)

  pub level_stays : (level : ℕ) → level ≤ 30 → Links b level 64 (on_level level es) → Links c level 64 (on_level level es)
  level_stays level le k = links_same level 64 (on_level level es) (λ v m. (level_head level es v m, tall b starts es end l level v le m)) k

-- ---- files and live records

pub log_of_file : (file : List ℕ) (says : Contents) → Reads file says → HasLog file says.starts says.chain says.header.current_size
log_of_file file says r = record { least = r.least; inside = r.inside; dummy = r.dummy; dummy_tail = r.dummy_tail; rows = r.rows; chain = r.chain }

pub tidy_live : (file : List ℕ) (says : Contents) → Reads file says → Tidy file says → Live file says.starts says.chain
tidy_live file says r t =
    let end = says.header.current_size in
    record {
      listed = record {
        log = subst (λ (n : ℕ). HasLog file says.starts says.chain n) (sym t.ends) (log_of_file file says r);
        aligned = omega (arith, r.aligned, t.ends);
        heads = subst (λ (n : ℕ). (at : ℕ) → IsAmong (heads_of says.chain) at → IsTidyHead file n at) (sym t.ends) (λ at m. elim m [
          | inl e ↦ subst (λ (v : ℕ). IsTidyHead file end v) e t.dummy
          | inr m ↦ each_of_all (λ v. IsTidyHead file end v) says.chain at t.heads m
        ]);
      };
      levels = t.levels;
    }

pub live_tidy : (file : List ℕ) (says : Contents) → Live file says.starts says.chain → IsCommitted file says → Reads file says × Tidy file says
live_tidy file says l is =
    let end = says.header.current_size in
    let log = subst (λ (n : ℕ). HasLog file says.starts says.chain n) is.ends l.listed.log in
    let heads = subst (λ (n : ℕ). (at : ℕ) → IsAmong (heads_of says.chain) at → IsTidyHead file n at) is.ends l.listed.heads in (
      record {
        header = is.header;
        fields = is.fields;
        least = log.least;
        aligned = omega (arith, l.listed.aligned, is.ends);
        inside = log.inside;
        dummy = log.dummy;
        rows = log.rows;
        dummy_tail = log.dummy_tail;
        chain = log.chain;
      },
      record {
        clean = is.clean;
        ends = is.ends;
        dummy = heads 64 (inl refl);
        heads = all_of_each (λ v. IsTidyHead file end v) says.chain (λ v m. heads v (inr m));
        count = is.count;
        levels = l.levels;
      },
    )

pub live_stays : (old new starts : List ℕ) (es : List Entry) → Live old starts es → length new ≡ length old → ((i : ℕ) → 64 ≤ i → i < length old → get_or new i 0 ≡ get_or old i 0) → Live new starts es
live_stays old new starts es l long same =
    let log = l.listed.log in
    let inside : length old ≤ length new = omega (arith, long) in
    let back = sym long in
    record {
      listed = record {
        log = subst (λ (n : ℕ). HasLog new starts es n) back (log_stays old new starts es (length old) log inside same);
        aligned = omega (arith, l.listed.aligned, long);
        heads = λ at m. subst (λ (n : ℕ). IsTidyHead new n at) back (tidy_stays old new starts es (length old) log inside same at m (l.listed.heads at m));
      };
      levels = λ level lo hi. level_stays old new starts es (length old) log inside same level hi (l.levels level lo hi);
    }

-- what recovery makes of an image of a tidy file
pub gives_back : (base : List ℕ) (says : Contents) → Tidy base says → recovered (record says { header = with_dirty says.header }) ≡ says
gives_back base says t =
    let clean = t.clean in
    let count : length says.chain ≡ says.header.num_records = sym t.count in
    let flags : (says.header.flags / 2 * 2 + 1) / 2 * 2 ≡ says.header.flags = even says.header.flags clean in
    λ i. record says { header = record says.header { num_records = count i; flags = flags i } }
  where
    even : (n : ℕ) → (n % 2 ≡ 1 → ⊥) → (n / 2 * 2 + 1) / 2 * 2 ≡ n
    even n clean = elim (cases_lt (n % 2) 1) [
      | inl lt ↦ omega arith
      | inr le ↦ absurd (clean (omega arith))
    ]
