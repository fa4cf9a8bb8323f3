-- The file of one pair, by computation.
use Rattle.std.proofs.Common.{◌≡◌, ℕ, zero, suc, ◌+◌, ◌≤◌, List, [], ◌∷◌, Bool, true, false, cond, eqb, refl, sym, subst, inl, inr, arith, lit<, lit≤}
use Rattle.std.proofs.lemmas.Bool.{cases_lt, le-ltb, eqb-true}
use Rattle.check_word.specs.CheckWord.{after_byte, after_bits, after_bit}
use Rattle.skip_form.specs.declared.head.Kind.TheVariants.{Put, Commit, Dummy}
use Rattle.base_bytes.specs.Fields.{part, u32_in, u64_in}
use Rattle.skip_form.specs.Fields.{pointer_in, u16_in}
use Rattle.skip_form.specs.Spelling.{header_bytes}
use Rattle.skip_spec.specs.Chain.{Entry}
use Rattle.skip_spec.specs.Opens.{Contents, Reads, Tidy, Links, on_level, Opens}
use Rattle.skip_spec.specs.Examples.{one_pair_file, one_pair}
use Rattle.skip_spec.proofs.KindLemmas.{put_is_not_dummy}

abbrev pub says : Contents
says = record {
  header = record { version = 1; generation = 1; num_records = 1; repack_size = 336; current_size = 400; flags = 0 };
  starts = 336 ∷ 376 ∷ [];
  chain = record { at = 336; level = 1; key = 97 ∷ []; value = 98 ∷ [] } ∷ [];
}

pub reads : Reads one_pair_file says
unfolding header_bytes part u16_in u32_in u64_in after_byte after_bits after_bit
reads = record {
  header = refl;
  fields = record { version = refl; generation = lit< tt; num_records = lit< tt; repack_size = lit< tt; current_size = lit< tt; flags = lit< tt };
  least = lit≤ tt;
  aligned = refl;
  inside = lit≤ tt;
  dummy = record { opening = refl; head = record { level = refl; lengths = (refl, refl); size = refl }; place = (λ e. refl, λ e. refl); inside = lit≤ tt };
  rows = (
    refl,
    record { opening = refl; head = record { level = (lit≤ tt, lit≤ tt); lengths = (lit< tt, lit< tt); size = refl }; place = (λ e. absurd (put_is_not_dummy Put refl e), λ e. absurd (omega (arith, e))); inside = lit≤ tt },
    (
      refl,
      record { opening = refl; head = record { level = refl; lengths = (refl, refl); size = refl }; place = (λ e. absurd (let h : Commit ≡ Dummy = e in cc), λ e. absurd (omega (arith, e))); inside = lit≤ tt },
      refl,
    ),
  );
  dummy_tail = refl;
  chain = (
    (336, record { below = lit< tt; one_of = inr refl; first = λ _. lit≤ tt; second = λ _. lit≤ tt }, inr (inl (inl refl, refl, refl))),
    record { start = inl refl; kind = refl; level = refl; key = refl; value = refl; tail_check = refl; padding = refl },
    refl,
    (0, record { below = lit< tt; one_of = inl refl; first = λ _. lit≤ tt; second = λ _. lit≤ tt }, inl (refl, refl)),
  );
}

-- the pointers of the dummy of the levels from 1 to this one are 0
ends : List ℕ → ℕ → Bool
ends file zero = true
ends file (suc n) = cond (eqb (pointer_in file 64 (suc n + 1)) 0) (ends file n) false

ends_at : (file : List ℕ) (n level : ℕ) → ends file n ≡ true → 1 ≤ level → level ≤ n → pointer_in file 64 (level + 1) ≡ 0
unfolding ends
ends_at file zero level e low high = absurd (omega arith)
ends_at file (suc n) level e low high = here (eqb (pointer_in file 64 (suc n + 1)) 0) (λ rest le. ends_at file n level rest low le) refl e
  where
    here : (t : Bool) → (ends file n ≡ true → level ≤ n → pointer_in file 64 (level + 1) ≡ 0) → eqb (pointer_in file 64 (suc n + 1)) 0 ≡ t → cond t (ends file n) false ≡ true → pointer_in file 64 (level + 1) ≡ 0
    here true before same rest = elim (cases_lt level (suc n)) [
      | inl lt ↦ before rest (omega arith)
      | inr le ↦ let last : suc n ≡ level = omega arith in subst (λ (k : ℕ). pointer_in file 64 (k + 1) ≡ 0) last (eqb-true (pointer_in file 64 (suc n + 1)) 0 same)
    ]
    here false before same rest = absurd (let h : false ≡ true = rest in cc)

all_end : ends one_pair_file 30 ≡ true
unfolding part u64_in ends
all_end = refl

no_upper : (level : ℕ) → 1 ≤ level → on_level level says.chain ≡ []
no_upper level low = rw (le-ltb level 1 low) refl

tidy : Tidy one_pair_file says
unfolding part u32_in u64_in u16_in after_byte after_bits after_bit
tidy = record {
  clean = λ e. omega (arith, e);
  ends = refl;
  dummy = (lit< tt, lit< tt, refl);
  heads = ((lit< tt, lit< tt, refl), tt);
  count = refl;
  levels = λ level low high. subst (λ (es : List Entry). Links one_pair_file level 64 es) (sym (no_upper level low)) (ends_at one_pair_file 30 level all_end low high);
}

pub one_pair_opens : Opens one_pair_file one_pair
unfolding part u16_in u32_in
one_pair_opens = record { says = says; reads = reads; map = refl; sound = inr tidy }
