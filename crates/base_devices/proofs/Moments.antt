-- How a run of calls goes on.
use Rattle.std.proofs.Common.{◌≡◌, Some, ⊎_elim, ℕ, ◌≤◌, ◌∙◌, refl}
use Rattle.std.specs.Prelude.{IsSome}
use Rattle.base_devices.specs.DiskCalls.{DiskCall}
use Rattle.base_devices.specs.CrashImages.{Image, DiskState, GoesOn, LeavesOnly, LeavesSame, IsMoment, IsDurable}
use Rattle.base_devices.specs.Frames.{KeepsMain, StaysAs, SameDisk}

-- what holds of each pair left during two runs holds of each left during both
pub each_then : (a b c : DiskState) (P : Image → ℕ → Type 0) → GoesOn a b → GoesOn b c → LeavesOnly a b P → LeavesOnly b c P → LeavesOnly a c P
each_then a b c P ab bc first second = record { each = λ i n left. ⊎_elim (first.each i n) (second.each i n) (bc.adds a.clock i n ab.later left) }

-- a run so far and one call more, which both keep the mark and leave images that have Q alone
pub next_call : (s a b : DiskState) (Q : Image → Type 0) → s.clock ≤ a.clock → a.mark ≡ s.mark → GoesOn a b → DiskCall a b
    → LeavesOnly s a (λ c n. (n ≡ s.mark) × Q c) → ((c : Image) → a.leaves c → Q c) → ((c : Image) → b.leaves c → Q c)
    → LeavesOnly s b (λ c n. (n ≡ s.mark) × Q c)
next_call s a b Q later mark time call so_far before after = record {
  each = λ c n left. ⊎_elim (so_far.each c n) (λ since. let pair = call.each.each c n since in (pair.0 ∙ mark, ⊎_elim (before c) (after c) pair.1)) (time.adds s.clock c n later left);
}

-- the first call of a run
pub first_call : (s b : DiskState) (Q : Image → Type 0) → DiskCall s b → ((c : Image) → s.leaves c → Q c) → ((c : Image) → b.leaves c → Q c) → LeavesOnly s b (λ c n. (n ≡ s.mark) × Q c)
first_call s b Q call before after = record { each = λ c n left. let pair = call.each.each c n left in (pair.0, ⊎_elim (before c) (after c) pair.1) }

-- what is shown of a device that tells holds of each
pub where_told : (s t : DiskState) (P : Image → ℕ → Type 0) → GoesOn s t → IsMoment t → (IsSome s.reads → LeavesOnly s t P) → LeavesOnly s t P
where_told s t P time moment shown = record { each = λ c n left. (shown (time.telling.0 (moment.tells s.clock c n left))).each c n left }

-- what a device that tells reads is all that may be left, where that is so durably
pub leaves_told : (s t : DiskState) (i : Image) → GoesOn s t → IsMoment t → IsDurable t → (IsSome s.reads → t.reads ≡ Some i) → (c : Image) → t.leaves c → c ≡ i
leaves_told s t i time moment durable reads c left =
    let told = moment.tells t.clock c t.mark (moment.counts_now c left) in
    cc (durable.only c left, reads (time.telling.0 told))

pub same_leaves : (s : DiskState) → LeavesSame s s
same_leaves s = record { no_more = λ c left. left; no_less = λ c left. left }

-- calls that keep the main file: none, one, and one run after another
pub stays_same : (s : DiskState) → IsMoment s → StaysAs s s
stays_same s moment = record {
  main = record { reads = refl; leaves = same_leaves s; written = refl; publishes = refl };
  mark = refl;
  each = record { each = λ c n left. let now = moment.now c n left in (now.1, now.0) };
}

pub stays_call : (a b : DiskState) → DiskCall a b → KeepsMain a b → StaysAs a b
stays_call a b call main = record {
  main = main;
  mark = call.mark;
  each = record { each = λ c n left. let pair = call.each.each c n left in (pair.0, ⊎_elim (λ was. was) (main.leaves.no_more c) pair.1) };
}

pub stays_then : (a b c : DiskState) → GoesOn a b → GoesOn b c → StaysAs a b → StaysAs b c → StaysAs a c
stays_then a b c first second ab bc = record {
  main = record {
    reads = bc.main.reads ∙ ab.main.reads;
    leaves = record { no_more = λ i left. ab.main.leaves.no_more i (bc.main.leaves.no_more i left); no_less = λ i left. bc.main.leaves.no_less i (ab.main.leaves.no_less i left) };
    written = bc.main.written ∙ ab.main.written;
    publishes = bc.main.publishes ∙ ab.main.publishes;
  };
  mark = bc.mark ∙ ab.mark;
  each = record { each = λ i n left. ⊎_elim (ab.each.each i n) (λ since. let pair = bc.each.each i n since in (pair.0 ∙ ab.mark, ab.main.leaves.no_more i pair.1)) (second.adds a.clock i n first.later left) };
}

-- a call that changes nothing of the disk, behind a run of calls
pub leaves_still : (a b c : DiskState) (P : Image → ℕ → Type 0) → SameDisk b c → LeavesOnly a b P → LeavesOnly a c P
leaves_still a b c P same only = record { each = λ i n left. only.each i n ((same.left_since a.clock i n).0 left) }

pub stays_still : (a b c : DiskState) → SameDisk b c → StaysAs a b → StaysAs a c
stays_still a b c same stays = record {
  main = record {
    reads = same.reads ∙ stays.main.reads;
    leaves = record { no_more = λ i left. stays.main.leaves.no_more i (same.leaves.no_more i left); no_less = λ i left. same.leaves.no_less i (stays.main.leaves.no_less i left) };
    written = same.written ∙ stays.main.written;
    publishes = same.publishes ∙ stays.main.publishes;
  };
  mark = same.mark ∙ stays.mark;
  each = leaves_still a b c (λ i n. (n ≡ a.mark) × a.leaves i) same stays.each;
}

pub durable_still : (b c : DiskState) → SameDisk b c → IsDurable b → IsDurable c
durable_still b c same durable = record { only = λ i left. same.reads ∙ durable.only i (same.leaves.no_more i left) }
