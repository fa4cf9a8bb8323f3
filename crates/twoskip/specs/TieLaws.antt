-- The tie of a session to its disk: on what it rests, and what a crash leaves.
use Rattle.std.proofs.Common.{◌≡◌, inl, inr, ℕ, ◌≤◌, Bool, true, false, List, length, refl, sym, ap, ◌∙◌, subst, le_trans, le-add_right}
use Rattle.std.specs.Prelude.{IsSome}
use Rattle.base_bytes.specs.declared.limits.TheConstants.{SKIP_LIMIT}
use Rattle.base_devices.specs.CrashImages.{Image, DiskState, LeavesSame}
use Rattle.skip_spec.specs.Chain.{pairs}
use Rattle.skip_spec.specs.Live.{live_under, map_under}
use Rattle.skip_spec.specs.Near.{Near}
use Rattle.skip_spec.specs.Opens.{Contents, Opens, Reads}
use Rattle.skip_spec.proofs.Lives.{file_lives, live_is}
use Rattle.skip_spec.proofs.Meanings.{opens_alike}
use Rattle.skip_spec.proofs.Unique.{reads_same}
use Rattle.skip_lists.specs.Tie.{IsWithin, MayLeave}
use Rattle.skip_lists.proofs.Recovered.{image_log}
use Rattle.skip_kind.specs.Kind.{skip_opens}
use Rattle.skip_txn.specs.Sessions.{IsTied, SkipSession, Tied, broken, resting, session_state, within}

-- ---- on what it rests

tie_rests : (bytes : List ℕ) (committed : ℕ) (has_changed : Bool) (old new : DiskState) → new.reads ≡ old.reads → LeavesSame old new → IsTied bytes committed has_changed old → IsTied bytes committed has_changed new
tie_rests bytes committed has_changed old new reads leaves tie = record {
  base = tie.base;
  says = tie.says;
  ends = tie.ends;
  tied = record {
    committed = tie.tied.committed;
    tidy = tie.tied.tidy;
    own = tie.tied.own;
    known = tie.tied.known;
    reads = λ shows. reads ∙ tie.tied.reads (subst IsSome reads shows);
    left = λ c left. tie.tied.left c (leaves.no_more c left);
  };
  fits = tie.fits;
}

pub tied_rests : (session : SkipSession) (old new : DiskState) → new.reads ≡ old.reads → LeavesSame old new → Tied session old → Tied session new
tied_rests (resting bytes) old new reads leaves tie = tie_rests bytes (length bytes) false old new reads leaves tie
tied_rests (within bytes committed has_changed) old new reads leaves tie = tie_rests bytes committed has_changed old new reads leaves tie
tied_rests broken old new reads leaves tie = tt

-- ---- what a crash leaves

may_near : (base : List ℕ) (has_changed : Bool) (file : List ℕ) → MayLeave base has_changed file → Near base file
may_near base false file is = inl is
may_near base true file left = left.0

short : (bytes : List ℕ) (has_changed : Bool) → IsWithin SKIP_LIMIT bytes has_changed → length bytes ≤ SKIP_LIMIT
short bytes false fits = le_trans (le-add_right (length bytes) 0) fits
short bytes true fits = le_trans (le-add_right (length bytes) 24) fits

-- under the committed end an image has the live records of its base
base_lives : (base : List ℕ) (says : Contents) (bytes : List ℕ) → Reads base says → Near base bytes → live_under bytes says.header.current_size ≡ says.chain
base_lives base says bytes reads (inl same) = ap (λ (b : List ℕ). live_under b says.header.current_size) same ∙ file_lives base says reads
base_lives base says bytes reads (inr image) =
    let one : image.0 ≡ says = reads_same base image.0 says image.1 reads in
    let log = image_log base bytes image.0 image.1 image.2 in
    subst (λ (s : Contents). live_under bytes s.header.current_size ≡ s.chain) one
    (live_is bytes image.0.starts image.0.header.current_size image.0.chain log.rows log.inside log.chain)

tie_opens : (bytes : List ℕ) (committed : ℕ) (has_changed : Bool) (disk : DiskState) → IsTied bytes committed has_changed disk → (c : Image) → disk.leaves c → skip_opens c (map_under bytes committed)
tie_opens bytes committed has_changed disk tie c left =
    let file = tie.tied.left c left in
    let opens : Opens tie.base (pairs tie.says.chain) = record { says = tie.says; reads = tie.tied.committed; map = refl; sound = inr tie.tied.tidy } in
    let lives : map_under bytes committed ≡ pairs tie.says.chain =
    ap (map_under bytes) (sym tie.ends) ∙ ap pairs (base_lives tie.base tie.says bytes tie.tied.committed (may_near tie.base has_changed bytes tie.tied.own)) in
    record {
      bytes = file.0;
      there = file.1;
      within = le_trans file.2.1 (short bytes has_changed tie.fits);
      so = subst (Opens file.0) (sym lives) (opens_alike tie.base file.0 (pairs tie.says.chain) opens (may_near tie.base has_changed file.0 file.2.0));
    }

pub tied_opens : (session : SkipSession) (disk : DiskState) → (session_state session).is_broken ≡ false → Tied session disk → (c : Image) → disk.leaves c → skip_opens c (session_state session).committed
tied_opens (resting bytes) disk sound tie c left = tie_opens bytes (length bytes) false disk tie c left
tied_opens (within bytes committed has_changed) disk sound tie c left = tie_opens bytes committed has_changed disk tie c left
tied_opens broken disk sound tie c left = absurd (cc sound)
