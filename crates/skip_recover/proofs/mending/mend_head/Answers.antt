use Rattle.std.proofs.Common.{◌≡◌, ◌+◌, ◌*◌, ◌<◌, ℕ, List, ap, subst, ◌∙◌}
use Rattle.std.specs.Int.{w64, to_be_bytes}
use Rattle.base_bytes.specs.Fields.{part}
use Rattle.base_devices.specs.CrashImages.{DiskState}
use Rattle.skip_form.specs.Fields.{pointer_in}
use Rattle.skip_spec.specs.Opens.{Contents}
use Rattle.skip_spec.specs.Near.{heads}
use Rattle.skip_spec.specs.Rows.{IsAmong}
use Rattle.skip_spec.specs.Successor.{below_or_zero}
use Rattle.skip_lists.specs.Heads.{MaySet}
use Rattle.skip_lists.specs.Tie.{TiedToBase}
use Rattle.skip_lists.proofs.Ties.{still_leaves}
use Rattle.skip_recover.specs.Heads.{IsLoose}
use Rattle.skip_recover.proofs.TidyHeads.{may_mend, mended}
use Rattle.skip_recover.proofs.mending.mend_head.Goals as goal

-- the slot that is written, by what the code read
module _ (b bytes : List ℕ) (at slot to end : ℕ) (same : bytes ≡ b) (value : to ≡ below_or_zero end (pointer_in bytes at slot)) (spelled : pointer_in bytes at slot < end → to_be_bytes w64 to ≡ part bytes (at + 8 + 8 * slot) 8) where
  value_here : to ≡ below_or_zero end (pointer_in b at slot)
  value_here = value ∙ ap (λ (x : List ℕ). below_or_zero end (pointer_in x at slot)) same

  may : (first : List ℕ) → first ≡ b → IsLoose first end at slot → (base : List ℕ) (says : Contents) (s : DiskState) → TiedToBase base says b s → IsAmong (heads says) at → says.header.current_size ≡ end → MaySet base says b at slot to
  may first is_first loose base says s t is size =
      may_mend base b says s t at is end size slot to (subst (λ (x : List ℕ). IsLoose x end at slot) is_first loose) value_here
      (subst (λ (x : List ℕ). pointer_in x at slot < end → to_be_bytes w64 to ≡ part x (at + 8 + 8 * slot) 8) same spelled)

pub returns-in_err-write_pointer-clause-moments : goal.returns-in_err-write_pointer-clause-moments
returns-in_err-write_pointer-clause-moments g c = λ base says t is size.
    let allowed = may c.args.image.now.bytes c.bytes-in-Some.result.now c.args.at c.in-Some.slot c.below_end-to.result c.args.end c.bytes-in-Some.ensures c.below_end-to.ensures.value c.below_end-to.ensures.spelled c.bytes.result.now c.bytes.ensures c.in-Some.ensures.loose base says _ t is size in
    c.write_pointer.ensures.moments base says t allowed

pub returns-in_ok-write_pointer-clause-moments : goal.returns-in_ok-write_pointer-clause-moments
returns-in_ok-write_pointer-clause-moments g c = λ base says t is size.
    let allowed = may c.args.image.now.bytes c.bytes-in-Some.result.now c.args.at c.in-Some.slot c.below_end-to.result c.args.end c.bytes-in-Some.ensures c.below_end-to.ensures.value c.below_end-to.ensures.spelled c.bytes.result.now c.bytes.ensures c.in-Some.ensures.loose base says _ t is size in
    c.write_pointer.ensures.moments base says t allowed

pub returns-in_ok-write_pointer-clause-done : goal.returns-in_ok-write_pointer-clause-done
returns-in_ok-write_pointer-clause-done g c = λ base says t is size.
    let b = c.args.image.now.bytes in
    let allowed = may b c.bytes-in-Some.result.now c.args.at c.in-Some.slot c.below_end-to.result c.args.end c.bytes-in-Some.ensures c.below_end-to.ensures.value c.below_end-to.ensures.spelled c.bytes.result.now c.bytes.ensures c.in-Some.ensures.loose base says _ t is size in
    let loose = subst (λ (x : List ℕ). IsLoose x c.args.end c.args.at c.in-Some.slot) c.bytes.ensures c.in-Some.ensures.loose in
    let value = value_here b c.bytes-in-Some.result.now c.args.at c.in-Some.slot c.below_end-to.result c.args.end c.bytes-in-Some.ensures c.below_end-to.ensures.value c.below_end-to.ensures.spelled in (
      c.in_ok-write_pointer.ensures.tied base says t allowed,
      mended base b says _ t c.args.at is c.args.end size c.in-Some.slot c.below_end-to.result loose value c.write_pointer.new.self.bytes c.write_pointer.ensures.sets,
    )

pub returns-in_default-clause-moments : goal.returns-in_default-clause-moments
returns-in_default-clause-moments g c = λ base says t is size. still_leaves base c.args.image.now.bytes says _ t (g.met.D.Disk.is_moment c.args.disk.now)
