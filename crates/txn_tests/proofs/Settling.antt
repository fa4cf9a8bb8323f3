-- A session over a tidy file is tied to the disk on which it lies.
use Rattle.std.proofs.Common.{◌≡◌, ℕ, Bool, true, false, List, length, Some, refl, sym, subst, ◌∙◌, inl, inr, arith}
use Rattle.base_devices.specs.CrashImages.{DiskState}
use Rattle.skip_spec.specs.Chain.{Entry}
use Rattle.skip_spec.specs.Rows.{IsAmong}
use Rattle.skip_spec.specs.Change.{heads_of}
use Rattle.skip_spec.specs.Live.{live_under}
use Rattle.skip_spec.specs.Opens.{IsDirty, HasDirty}
use Rattle.skip_spec.specs.Recovery.{recovered, Recovers}
use Rattle.skip_spec.proofs.Lives.{file_lives}
use Rattle.skip_lists.specs.Tie.{AreKnown, Recoverable}
use Rattle.skip_image.specs.Verifying.{IsVerified}
use Rattle.skip_seek.specs.Searches.{IsLive}
use Rattle.skip_spec.proofs.SameLog.{tidy_live}
use Rattle.skip_txn.specs.Sessions.{SkipSession, Tied, bytes_of, resting, within, broken, session_state}
use Rattle.txn_tests.specs.Settled.{IsOn, IsSettled}

module _ (b : List ℕ) (d : DiskState) (s : IsSettled b d) where
  lives : live_under b (length b) ≡ s.says.chain
  lives = subst (λ (n : ℕ). live_under b n ≡ s.says.chain) (sym s.tidy.ends) (file_lives b s.says s.committed)

  known : AreKnown s.says (live_under b (length b))
  known at m below = subst (λ (es : List Entry). IsAmong (heads_of es) at) lives m

  pub settled_tied : Tied (resting b) d
  settled_tied = record {
    base = b;
    says = s.says;
    ends = sym s.tidy.ends;
    tied = record {
      committed = s.committed;
      tidy = s.tidy;
      own = refl;
      known = known;
      reads = λ shows. s.on.reads;
      left = λ c left. (b, (let e : Some c ≡ Some (Some b) = sym (s.on.durable.only c left) ∙ s.on.reads in cc), (refl, omega arith));
    };
    fits = omega (arith, s.on.fits);
  }

-- ---- after verification

pub clean_settled : (b : List ℕ) (d : DiskState) (count : ℕ) → IsVerified b count true → IsOn b d → IsSettled b d
clean_settled b d count v on = record {
  says = v.says;
  committed = v.reads;
  tidy = elim v.sound [ inl dirty ↦ absurd (v.is_clean.0 refl dirty) | inr tidy ↦ tidy ];
  on = on;
}

dirty_of : (b : List ℕ) (count : ℕ) (v : IsVerified b count false) → IsDirty v.says.header
dirty_of b count v = elim v.sound [ inl dirty ↦ dirty | inr tidy ↦ absurd (cc (v.is_clean.1 tidy.clean)) ]

pub dirty_recoverable : (b : List ℕ) (d : DiskState) (count : ℕ) → IsVerified b count false → IsOn b d → Recoverable b d
dirty_recoverable b d count v on =
    let has : HasDirty b = (v.says.header, v.reads.fields, v.reads.header, dirty_of b count v) in (
      b,
      v.says,
      record {
        committed = v.reads;
        sound = v.sound;
        own = (inl refl, has);
        reads = λ shows. on.reads;
        left = λ c left. (b, (let e : Some c ≡ Some (Some b) = sym (on.durable.only c left) ∙ on.reads in cc), (inl refl, has));
      },
    )

pub recovered_settled : (b c : List ℕ) (d : DiskState) (count : ℕ) → IsVerified b count false → Recovers b c → IsOn c d → IsSettled c d
recovered_settled b c d count v r on = record {
  says = recovered v.says;
  committed = r.reads v.says v.reads;
  tidy = r.tidy v.says v.reads;
  on = on;
}

-- ---- the beginning of a transaction

pub begun_tied : (s : SkipSession) (d : DiskState) → (session_state s).is_broken ≡ false → (session_state s).in_transaction ≡ false → Tied s d → Tied (within (bytes_of s) (length (bytes_of s)) false) d
begun_tied (resting bytes) d sound closed t = t
begun_tied (within bytes committed has_changed) d sound closed t = absurd (cc closed)
begun_tied broken d sound closed t = absurd (cc sound)

-- ---- the live records of a clean file

pub clean_live : (b : List ℕ) (count : ℕ) (clean : Bool) → IsVerified b count clean → clean ≡ true → IsLive b
clean_live b count clean v is = (v.says.starts, v.says.chain, tidy_live b v.says v.reads (elim v.sound [ inl dirty ↦ absurd (v.is_clean.0 is dirty) | inr tidy ↦ tidy ]))
