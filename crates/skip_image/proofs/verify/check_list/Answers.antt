use Rattle.std.proofs.Common.{◌≡◌, ◌≢◌, ℕ, ◌+◌, ◌≤◌, List, replicate, slice_index, None, Result, Err, refl, sym, ap, subst, ◌∙◌, arith}
use Rattle.std.specs.Prelude.{IfErr}
use Rattle.std.proofs.lemmas.List.{get_or-replicate}
use Rattle.std.proofs.lemmas.Result.{err_from_is_err_and}
use Rattle.base_bytes.specs.Fields.{AreBytes}
use Rattle.base_bytes.specs.declared.flaw.Damage.{Damage}
use Rattle.skip_form.specs.Flaws.{head_in}
use Rattle.skip_spec.specs.FirstFlaw.{end_of, way_flaw, successor, live_flaw, RightRows}
use Rattle.skip_spec.proofs.Flawless.{FrontIsRight, front_right}
use Rattle.skip_image.specs.Verifying.{Raises}
use Rattle.skip_image.proofs.ListWalk.{IsHead, dummy_head, dummy_uppers, passed_none, next_head, Passed, stops_on_way, stops_at_end, ends_here, stops_at_live, passes_on, not_so_many, raised_uppers}
use Rattle.skip_image.proofs.verify.check_list.Goals as goal

-- the exit of a check
wrong_at : {T : Type 0} (r : Result T Damage) (d y : Damage) (P : Damage → Type 0) → r ≡ Err y → y ≡ d → P d → IfErr r P
wrong_at r d y P is same p = subst (λ (x : Result _ Damage). IfErr x P) (sym is) (subst P (sym same) p)

-- the record that comes next
next_there : (file : List ℕ) (bytes : AreBytes file) (front : FrontIsRight file) (starts : List ℕ) (rows : RightRows file 336 starts (end_of file)) (at next : ℕ)
    → way_flaw file starts at ≡ None → next ≡ successor file at → next ≢ 0 → IsHead file next
next_there file bytes front starts rows at next way is some = subst (IsHead file) (sym is) (next_head file bytes front starts rows at way (λ z. some (is ∙ z)))

first_latests : (level : ℕ) → 1 ≤ level → level ≤ 30 → slice_index (replicate 31 64) level ≡ 64
first_latests level low high = get_or-replicate 31 level 64 0 (omega arith)

pub loop-count-init : goal.loop-count-init
loop-count-init c =
    let file = c.args.file.now in
    let bytes : AreBytes file = λ i. omega (arith, c.type_inv.file i) in
    let front = front_right file c.requires.front in
    record {
      here = dummy_head file bytes front;
      long = refl;
      uppers = dummy_uppers file bytes front (replicate 31 64) first_latests;
      passed = λ starts m. passed_none file bytes front starts (replicate 31 64) first_latests;
    }

pub next_live-requires-clause-inside : goal.next_live-requires-clause-inside
next_live-requires-clause-inside c = (front_right c.args.file.now c.requires.front).inside

pub returns-in_err-next-clause-wrong : goal.returns-in_err-next-clause-wrong
returns-in_err-next-clause-wrong c = λ starts m.
    let file = c.args.file.now in
    let front = front_right file c.requires.front in
    let exit = err_from_is_err_and c.from_residual.result c.from_residual.ensures.1 in
    wrong_at _ _ _ _ exit.1 exit.2 (stops_on_way file (λ i. omega (arith, c.type_inv.file i)) front starts m.0 c.loop-count.at c.loop-count.count c.loop-count.last (c.loop-count.invariant.passed starts m) _ (c.in_err-next.ensures.finds starts m))

pub returns-in_err-check_end-clause-wrong : goal.returns-in_err-check_end-clause-wrong
returns-in_err-check_end-clause-wrong c = λ starts m.
    let file = c.args.file.now in
    let front = front_right file c.requires.front in
    let p = c.loop-count.invariant.passed starts m in
    let exit = err_from_is_err_and c.from_residual-in_err-check_end.result c.from_residual-in_err-check_end.ensures.1 in
    wrong_at _ _ _ _ exit.1 exit.2 (stops_at_end file (λ i. omega (arith, c.type_inv.file i)) front starts m.0 c.loop-count.at c.loop-count.count c.loop-count.last p _ (c.in_ok-next.ensures.finds starts m) (sym c.in_ok-next.ensures.next ∙ c.if-next-eq0.true) (c.in_err-check_end.ensures p.passed p.last p.counted))

pub returns-then-next-eq0-clause-list : goal.returns-then-next-eq0-clause-list
returns-then-next-eq0-clause-list c = λ starts m.
    let file = c.args.file.now in
    let front = front_right file c.requires.front in
    let p = c.loop-count.invariant.passed starts m in
    ends_here file (λ i. omega (arith, c.type_inv.file i)) front starts m.0 c.loop-count.at c.loop-count.count c.loop-count.last p (c.in_ok-next.ensures.finds starts m) (sym c.in_ok-next.ensures.next ∙ c.if-next-eq0.true) (c.in_ok-check_end.ensures p.passed p.last p.counted)

pub check_live-requires-clause-there : goal.check_live-requires-clause-there
check_live-requires-clause-there c =
    let file = c.args.file.now in
    let m = c.requires.marked in
    (next_there file (λ i. omega (arith, c.type_inv.file i)) (front_right file c.requires.front) m.0 m.1.0 c.loop-count.at c.in_ok-next.next (c.in_ok-next.ensures.finds m.0 m.1) c.in_ok-next.ensures.next c.if-next-eq0.false).there

pub check_live-requires-clause-low : goal.check_live-requires-clause-low
check_live-requires-clause-low c =
    let file = c.args.file.now in
    let m = c.requires.marked in
    (next_there file (λ i. omega (arith, c.type_inv.file i)) (front_right file c.requires.front) m.0 m.1.0 c.loop-count.at c.in_ok-next.next (c.in_ok-next.ensures.finds m.0 m.1) c.in_ok-next.ensures.next c.if-next-eq0.false).low

pub check_live-requires-clause-high : goal.check_live-requires-clause-high
check_live-requires-clause-high c =
    let file = c.args.file.now in
    let m = c.requires.marked in
    (next_there file (λ i. omega (arith, c.type_inv.file i)) (front_right file c.requires.front) m.0 m.1.0 c.loop-count.at c.in_ok-next.next (c.in_ok-next.ensures.finds m.0 m.1) c.in_ok-next.ensures.next c.if-next-eq0.false).high

pub returns-in_err-check_live-clause-wrong : goal.returns-in_err-check_live-clause-wrong
returns-in_err-check_live-clause-wrong c = λ starts m.
    let file = c.args.file.now in
    let front = front_right file c.requires.front in
    let p = c.loop-count.invariant.passed starts m in
    let is = c.in_ok-next.ensures.next in
    let exit = err_from_is_err_and c.from_residual-in_err-check_live.result c.from_residual-in_err-check_live.ensures.1 in
    wrong_at _ _ _ _ exit.1 exit.2 (stops_at_live file (λ i. omega (arith, c.type_inv.file i)) front starts m.0 c.loop-count.at c.loop-count.count c.loop-count.last p _ (c.in_ok-next.ensures.finds starts m) (λ z. c.if-next-eq0.false (is ∙ z))
    (ap (live_flaw file p.passed) (sym is) ∙ c.in_err-check_live.ensures p.passed p.last p.key))

pub level_at-requires : goal.level_at-requires
level_at-requires c =
    let file = c.args.file.now in
    let m = c.requires.marked in
    let next = next_there file (λ i. omega (arith, c.type_inv.file i)) (front_right file c.requires.front) m.0 m.1.0 c.loop-count.at c.in_ok-next.next (c.in_ok-next.ensures.finds m.0 m.1) c.in_ok-next.ensures.next c.if-next-eq0.false in
    omega (arith, next.there.inside)

pub raise-requires-clause-low : goal.raise-requires-clause-low
raise-requires-clause-low c =
    let file = c.args.file.now in
    let m = c.requires.marked in
    let next = next_there file (λ i. omega (arith, c.type_inv.file i)) (front_right file c.requires.front) m.0 m.1.0 c.loop-count.at c.in_ok-next.next (c.in_ok-next.ensures.finds m.0 m.1) c.in_ok-next.ensures.next c.if-next-eq0.false in
    omega (arith, next.low, c.level_at.ensures)

pub raise-requires-clause-high : goal.raise-requires-clause-high
raise-requires-clause-high c =
    let file = c.args.file.now in
    let m = c.requires.marked in
    let next = next_there file (λ i. omega (arith, c.type_inv.file i)) (front_right file c.requires.front) m.0 m.1.0 c.loop-count.at c.in_ok-next.next (c.in_ok-next.ensures.finds m.0 m.1) c.in_ok-next.ensures.next c.if-next-eq0.false in
    omega (arith, next.high, c.level_at.ensures)

pub loop-count-preserved : goal.loop-count-preserved
loop-count-preserved c =
    let file = c.args.file.now in
    let bytes : AreBytes file = λ i. omega (arith, c.type_inv.file i) in
    let front = front_right file c.requires.front in
    let m = c.requires.marked in
    let to = c.in_ok-next.next in
    let is = c.in_ok-next.ensures.next in
    let next = next_there file (λ i. omega (arith, c.type_inv.file i)) front m.0 m.1.0 c.loop-count.at to (c.in_ok-next.ensures.finds m.0 m.1) is c.if-next-eq0.false in
    let new = c.raise.new.last in
    let raised : Raises to (head_in file to).level c.loop-count.last new = subst (λ (n : ℕ). Raises to n c.loop-count.last new) c.level_at.ensures c.raise.ensures.raised in
    record {
      here = next;
      long = c.raise.ensures.size ∙ c.loop-count.invariant.long;
      uppers = raised_uppers file to c.loop-count.last new next.there raised c.loop-count.invariant.uppers;
      passed = λ starts m.
          let p = c.loop-count.invariant.passed starts m in
          let live = ap (live_flaw file p.passed) (sym is) ∙ c.in_ok-check_live.ensures p.passed p.last p.key in
          subst (λ (v : ℕ). Passed file starts v (c.loop-count.count + 1) new) (sym is)
          (passes_on file bytes front starts m.0 c.loop-count.at c.loop-count.count c.loop-count.last p new (c.in_ok-next.ensures.finds starts m) (λ z. c.if-next-eq0.false (is ∙ z)) live
          (subst (λ (v : ℕ). Raises v (head_in file v).level c.loop-count.last new) is raised));
    }

pub unreachable-requires : goal.unreachable-requires
unreachable-requires c =
    let file = c.args.file.now in
    let m = c.requires.marked in
    not_so_many file (λ i. omega (arith, c.type_inv.file i)) (front_right file c.requires.front) m.0 m.1.0 c.loop-count.at c.loop-count.count c.loop-count.last (c.loop-count.invariant.passed m.0 m.1) c.loop-count-test.false
