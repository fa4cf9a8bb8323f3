use Rattle.std.proofs.Common.{◌≡◌, ◌+◌, ◌<◌, ◌++◌, ◌∷◌, ℕ, List, [], refl, ap, sym, subst, ◌∙◌, arith}
use Rattle.skip_form.specs.declared.head.Head.{Head}
use Rattle.skip_form.specs.Flaws.{head_in}
use Rattle.skip_spec.specs.FirstFlaw.{end_of, RightRows}
use Rattle.skip_spec.proofs.AnAnswer.{row_fits}
use Rattle.skip_spec.proofs.Flawless.{front_right}
use Rattle.skip_image.proofs.RowWalk.{rows_on, size_aligned}
use Rattle.skip_image.proofs.front.check_rows.Goals as goal

-- the size of a record by the head that was read
size_is : (file : List ℕ) (at : ℕ) (h : Head) → h ≡ head_in file at → h.size ≡ (head_in file at).size
size_is file at h e = ap (λ (k : Head). k.size) e

pub loop-at-init : goal.loop-at-init
loop-at-init c = record { inside = (front_right c.args.file.now c.requires.front).least; aligned = refl; size = refl; rows = ([], refl, c.requires.clear) }

pub row-requires-clause-inside : goal.row-requires-clause-inside
row-requires-clause-inside c = (front_right c.args.file.now c.requires.front).inside

pub overflow_add-at : goal.overflow_add-at
overflow_add-at c =
    let file = c.args.file.now in
    let at = c.loop-at.at in
    let fits = row_fits file at c.in_ok-head.ensures.finds in
    let size = size_is file at c.in_ok-head.head c.in_ok-head.ensures.head in
    let inside = (front_right file c.requires.front).inside in
    omega (arith, fits, size, inside, c.type_inv.file)

pub loop-at-preserved : goal.loop-at-preserved
loop-at-preserved c =
    let file = c.args.file.now in
    let at = c.loop-at.at in
    let fits = row_fits file at c.in_ok-head.ensures.finds in
    let size = size_is file at c.in_ok-head.head c.in_ok-head.ensures.head in
    let whole = size_aligned file at in
    let rows = c.loop-at.invariant.rows in
    let lt : at < end_of file = omega (arith, c.loop-at-test.true, c.requires.log.end) in
    record {
      inside = omega (arith, fits, size);
      aligned = omega (arith, c.loop-at.invariant.aligned, size, whole);
      size = c.mark.ensures.size ∙ c.loop-at.invariant.size;
      rows = (
        rows.0 ++ at ∷ [],
        subst (λ (n : ℕ). RightRows file 336 (rows.0 ++ at ∷ []) (at + n)) (sym size) (rows_on file 336 rows.0 at rows.1 c.in_ok-head.ensures.finds lt),
        c.mark.ensures.marked rows.0 rows.2,
      );
    }
