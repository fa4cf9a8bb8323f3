use Rattle.std.proofs.Common.{◌≡◌, ◌-◌}
use Rattle.index_form.specs.Reading.{header_in}
use Rattle.index_form.specs.Views.{file_of, usable_left}
use Rattle.index_form.proofs.usable.UsableIterator.next.Given as goal

-- only records that are not usable were passed over
abbrev pub invariant-loop-self : goal.invariant-loop-self
invariant-loop-self l = usable_left l.self ≡ usable_left l.initial.self

abbrev pub decreases-loop-self : goal.decreases-loop-self
decreases-loop-self l = (header_in (file_of l.self.index)).num_records - l.self.place
