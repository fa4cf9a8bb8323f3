use Rattle.std.proofs.Common.{◌≡◌, ◌∷◌, ◌∙◌, ◌+◌, inl, inr, refl, true, false, length, sym, ap, arith, rules}
use Rattle.index_form.specs.Reading.{records_of, stored_record}
use Rattle.index_form.specs.Usable.{is_usable}
use Rattle.index_form.specs.Views.{bytes_of, file_of, placed_record, usable_left}
use Rattle.index_form.proofs.UsableLemmas.{is_usable-true, is_usable-false, takes_usable, passes_over}
use Rattle.index_form.proofs.usable.UsableIterator.next.Goals as goal
use Rattle.index_form.proofs.usable.UsableIterator.next.Goals.{else-check_right-via-then-check_right+else-uid-self, else-check_right-via-else-check_right}

pub returns-then-uid-self-clause-steps : goal.returns-then-uid-self-clause-steps
returns-then-uid-self-clause-steps c =
    let self = c.loop-self.self in
    let item = stored_record (bytes_of c.at-item.result) in
    let usable : is_usable self.last item ≡ true = is_usable-true self.last item (sym c.check_right.ensures.value ∙ c.if-check_right.true) (omega (arith, c.if-uid-self.true, c.uid.ensures)) in
    sym c.loop-self.invariant
    ∙ takes_usable (records_of (file_of self.index)) self.place self.last item c.at-item.ensures.record usable
    ∙ rw c.uid-self.ensures refl

pub returns-then-uid-self-clause-goes : goal.returns-then-uid-self-clause-goes
returns-then-uid-self-clause-goes c =
    let self = c.loop-self.self in
    let item = stored_record (bytes_of c.at-item.result) in
    let usable : is_usable self.last item ≡ true = is_usable-true self.last item (sym c.check_right.ensures.value ∙ c.if-check_right.true) (omega (arith, c.if-uid-self.true, c.uid.ensures)) in
    let step : usable_left c.args.self.now ≡ placed_record (self.place, c.at-item.result) ∷ usable_left (record { index = self.index; place = self.place + 1; last = c.uid-self.result }) =
    sym c.loop-self.invariant
    ∙ takes_usable (records_of (file_of self.index)) self.place self.last item c.at-item.ensures.record usable
    ∙ rw c.uid-self.ensures refl in
    let shorter = ap length step in search rules

pub loop-self-preserved : goal.loop-self-preserved
loop-self-preserved c =
    let self = c.loop-self.self in
    let item = stored_record (bytes_of c.at-item.result) in
    let other : is_usable self.last item ≡ false = elim c.else-check_right.branch [
      | else-check_right-via-then-check_right+else-uid-self w ↦ is_usable-false self.last item (inr (omega (arith, w.if-uid-self.false, w.uid.ensures)))
      | else-check_right-via-else-check_right w ↦ is_usable-false self.last item (inl (sym c.check_right.ensures.value ∙ w.if-check_right.false))
    ] in
    sym (passes_over (records_of (file_of self.index)) self.place self.last item c.at-item.ensures.record other)
    ∙ c.loop-self.invariant
