-- Runs of calls that repair in place.
use Rattle.std.proofs.Common.{◌≡◌, ◌≤◌, ℕ, ◌+◌, List, length, take, refl, ap, ◌∙◌, arith}
use Rattle.std.proofs.lemmas.List.{length-take}
use Rattle.base_bytes.specs.Landing.{Lands, Shortens}
use Rattle.base_devices.specs.CrashImages.{Image, DiskState, GoesOn, IsMoment}
use Rattle.base_devices.specs.DiskCalls.{DiskCall, Follows}
use Rattle.skip_lists.specs.Tie.{StaysUpTo}
use Rattle.skip_lists.proofs.Ties.{then_up_to, same_up_to, write_up_to, cut_up_to}
use Rattle.skip_recover.specs.Places.{RepairsInPlace}

none_up_to : (most : ℕ) (s : DiskState) → IsMoment s → StaysUpTo most s s
none_up_to most s moment start = (start, record { each = λ c n left. let now = moment.now c n left in (now.1, start c now.0) })

-- no call
pub in_place_none : (b : List ℕ) (s : DiskState) → IsMoment s → RepairsInPlace b b s s
in_place_none b s moment = record { no_longer = omega arith; up_to = λ most le. none_up_to most s moment; mark = refl; publishes = refl }

-- two runs, one after the other
pub in_place_then : (b c d : List ℕ) (x y z : DiskState) → GoesOn x y → GoesOn y z → RepairsInPlace b c x y → RepairsInPlace c d y z → RepairsInPlace b d x z
in_place_then b c d x y z xy yz first second =
    let shrinks = first.no_longer in
    record {
      no_longer = omega (arith, shrinks, second.no_longer);
      up_to = λ most le. then_up_to most x y z xy yz first.mark (first.up_to most le) (second.up_to most (omega (arith, shrinks, le)));
      mark = second.mark ∙ first.mark;
      publishes = second.publishes ∙ first.publishes;
    }

-- one call
pub cut_in_place : (b c : List ℕ) (to : ℕ) (x y : DiskState) → c ≡ take to b → DiskCall x y → Follows (λ b c. Shortens b to c) x y → y.publishes ≡ x.publishes → RepairsInPlace b c x y
cut_in_place b c to x y is call follows same = record { no_longer = omega (arith, ap length is, length-take to b); up_to = λ most le. cut_up_to most x y to call follows; mark = call.mark; publishes = same }

pub sync_in_place : (b : List ℕ) (x y : DiskState) → DiskCall x y → ((i : Image) → y.leaves i → x.leaves i) → y.publishes ≡ x.publishes → RepairsInPlace b b x y
sync_in_place b x y call from same = record { no_longer = omega arith; up_to = λ most le. same_up_to most x y call from; mark = call.mark; publishes = same }

pub write_in_place : (b c : List ℕ) (at : ℕ) (bytes : List ℕ) (x y : DiskState) → length c ≡ length b → at + length bytes ≤ length b → DiskCall x y → Follows (λ b c. Lands b at bytes c) x y → y.publishes ≡ x.publishes → RepairsInPlace b c x y
write_in_place b c at bytes x y long ends call follows same = record { no_longer = omega (arith, long); up_to = λ most le. write_up_to most x y at bytes (omega (arith, ends, le)) call follows; mark = call.mark; publishes = same }
