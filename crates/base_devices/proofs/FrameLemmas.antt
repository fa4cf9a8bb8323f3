-- Each frame fact implies the weaker ones, and holds of two runs of calls where it holds of both.
use Rattle.std.proofs.Common.{◌≡◌, ◌≤◌, ℕ, Option, ⊎_elim, ◌∙◌, refl, arith, List}
use Rattle.std.specs.Prelude.{Result}
use Rattle.base_devices.specs.CrashImages.{Image, DiskState, GoesOn, LeavesOnly, LeavesSame, IsMoment, IsDurable}
use Rattle.base_devices.specs.Frames.{KeepsMain, StaysAs, KeepsFiles, OnlyPrints, MayLeaveLess, LeavesBetween, KeepsFile, SameDisk}
use Rattle.base_devices.specs.DiskCalls.{DiskCall, Syncs}
use Rattle.base_devices.specs.HostCalls.{MovesMark}
use Rattle.base_devices.proofs.Moments.{each_then, same_leaves, leaves_still}

-- the same images, over two runs of calls
pub leaves_twice : (a b c : DiskState) → LeavesSame a b → LeavesSame b c → LeavesSame a c
leaves_twice a b c ab bc = record { no_more = λ i left. ab.no_more i (bc.no_more i left); no_less = λ i left. bc.no_less i (ab.no_less i left) }

-- ---- prints

pub only_none : (s : DiskState) → IsMoment s → OnlyPrints s s
only_none s moment = record {
  keeps = record { reads = refl; leaves = same_leaves s; fresh = refl; written = refl; publishes = refl };
  mark = omega arith;
  each = record { each = λ c n left. let now = moment.now c n left in (now.0, omega (arith, now.1), omega (arith, now.1)) };
}

pub only_once : {T E : Type 0} (told : Option (List ℕ)) (s t : DiskState) (bytes : List ℕ) (result : Result T E) → MovesMark told s t bytes result → KeepsFiles s t → OnlyPrints s t
only_once told s t bytes result moves keeps = record { keeps = keeps; mark = moves.from; each = moves.each }

pub only_then : (s t u : DiskState) → GoesOn s t → GoesOn t u → OnlyPrints s t → OnlyPrints t u → OnlyPrints s u
only_then s t u st tu first second = record {
  keeps = record {
    reads = second.keeps.reads ∙ first.keeps.reads;
    leaves = leaves_twice s t u first.keeps.leaves second.keeps.leaves;
    fresh = second.keeps.fresh ∙ first.keeps.fresh;
    written = second.keeps.written ∙ first.keeps.written;
    publishes = second.keeps.publishes ∙ first.keeps.publishes;
  };
  mark = omega (arith, first.mark, second.mark);
  each = each_then s t u _ st tu
      (record { each = λ c n left. let p = first.each.each c n left in (p.0, p.1, omega (arith, p.2, second.mark)) })
      (record { each = λ c n left. let p = second.each.each c n left in (first.keeps.leaves.no_more c p.0, omega (arith, p.1, first.mark), p.2) });
}

-- ---- the weaker frames

pub file_of_stays : (s t : DiskState) → t.fresh ≡ s.fresh → StaysAs s t → KeepsFile s t
file_of_stays s t fresh stays = record {
  each = record { each = λ c n left. let p = stays.each.each c n left in (omega (arith, p.0), omega (arith, p.0, stays.mark), p.1) };
  fresh = fresh;
  written = stays.main.written;
  publishes = stays.main.publishes;
}

pub file_of_prints : (s t : DiskState) → OnlyPrints s t → KeepsFile s t
file_of_prints s t only = record {
  each = record { each = λ c n left. let p = only.each.each c n left in (p.1, p.2, p.0) };
  fresh = only.keeps.fresh;
  written = only.keeps.written;
  publishes = only.keeps.publishes;
}

pub file_of_less : (s t : DiskState) → MayLeaveLess s t → KeepsFile s t
file_of_less s t less = record {
  each = record { each = λ c n left. let p = less.each.each c n left in (omega (arith, p.0), omega (arith, p.0, less.mark), p.1) };
  fresh = less.fresh;
  written = less.written;
  publishes = less.publishes;
}

-- what is left between two marks, over two runs of calls
pub between_then : (a b c : DiskState) (P Q R : Image → Type 0) → GoesOn a b → GoesOn b c → a.mark ≤ b.mark → b.mark ≤ c.mark → ((i : Image) → P i → R i) → ((i : Image) → Q i → R i)
    → LeavesBetween a b P → LeavesBetween b c Q → LeavesBetween a c R
between_then a b c P Q R ab bc low high first second before after = each_then a b c _ ab bc
    (record { each = λ i n left. let p = before.each i n left in (p.0, omega (arith, p.1, high), first i p.2) })
    (record { each = λ i n left. let p = after.each i n left in (omega (arith, p.0, low), p.1, second i p.2) })

-- a file that is kept, behind one of which less may be left
pub file_then : (a b c : DiskState) → GoesOn a b → GoesOn b c → a.mark ≤ b.mark → b.mark ≤ c.mark → ((i : Image) → b.leaves i → a.leaves i) → KeepsFile a b → KeepsFile b c → KeepsFile a c
file_then a b c ab bc low high less first second = record {
  each = between_then a b c _ _ _ ab bc low high (λ i left. left) less first.each second.each;
  fresh = second.fresh ∙ first.fresh;
  written = second.written ∙ first.written;
  publishes = second.publishes ∙ first.publishes;
}

-- a call that changes nothing of the disk, behind a run of calls
pub between_still : (a b c : DiskState) (Q : Image → Type 0) → SameDisk b c → LeavesBetween a b Q → LeavesBetween a c Q
between_still a b c Q same leaves = record {
  each = λ i n left. let p = leaves.each i n ((same.left_since a.clock i n).0 left) in (p.0, omega (arith, p.1, same.mark), p.2);
}

pub file_still : (a b c : DiskState) → SameDisk b c → KeepsFile a b → KeepsFile a c
file_still a b c same file = record {
  each = between_still a b c a.leaves same file.each;
  fresh = same.fresh ∙ file.fresh;
  written = same.written ∙ file.written;
  publishes = same.publishes ∙ file.publishes;
}

-- ---- less may be left

pub less_of_stays : (a b : DiskState) → StaysAs a b → b.fresh ≡ a.fresh → MayLeaveLess a b
less_of_stays a b stays fresh = record {
  leaves = stays.main.leaves.no_more;
  each = stays.each;
  mark = stays.mark;
  fresh = fresh;
  written = stays.main.written;
  publishes = stays.main.publishes;
}

pub less_of_sync : {T E : Type 0} (a b : DiskState) (result : Result T E) → DiskCall a b → Syncs a b result → MayLeaveLess a b
less_of_sync a b result call sync = record {
  leaves = sync.crash;
  each = record { each = λ c n left. let pair = call.each.each c n left in (pair.0, ⊎_elim (λ was. was) (sync.crash c) pair.1) };
  mark = call.mark;
  fresh = sync.fresh;
  written = sync.written;
  publishes = sync.publishes;
}

pub less_then : (a b c : DiskState) → GoesOn a b → GoesOn b c → MayLeaveLess a b → MayLeaveLess b c → MayLeaveLess a c
less_then a b c ab bc first second = record {
  leaves = λ i left. first.leaves i (second.leaves i left);
  each = each_then a b c _ ab bc first.each (record { each = λ i n left. let pair = second.each.each i n left in (pair.0 ∙ first.mark, first.leaves i pair.1) });
  mark = second.mark ∙ first.mark;
  fresh = second.fresh ∙ first.fresh;
  written = second.written ∙ first.written;
  publishes = second.publishes ∙ first.publishes;
}

-- what is durable stays so
pub durable_stays : (a b : DiskState) → StaysAs a b → IsDurable a → IsDurable b
durable_stays a b stays durable = record { only = λ i left. stays.main.reads ∙ durable.only i (stays.main.leaves.no_more i left) }
