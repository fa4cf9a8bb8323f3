use Rattle.std.proofs.Common.{◌∙◌, ap, take, drop}
use Rattle.std.specs.Prelude.{option_map}
use Rattle.base_bytes.specs.Landing.{written_at}
use Rattle.mem_devices.proofs.ShowsNext.{shows_written, shows_pending, shows_cut, shows_cut_pending, shows_new}
use Rattle.mem_devices.proofs.replay.Replay.play.Goals as goal

pub returns-in_ok-write-in-Wrote-clause-shows : goal.returns-in_ok-write-in-Wrote-clause-shows
returns-in_ok-write-in-Wrote-clause-shows c = λ m before. shows_written _ _ _ m before _ _ _ _ c.in-Wrote.is c.requires.own
    (c.in_ok-write-in-Wrote.ensures.main ∙ ap (option_map (written_at c.in-Wrote.at c.args.bytes.now)) c.in_ok-land_lines-in-Wrote.ensures.main.main)
    (c.in_ok-write-in-Wrote.ensures.same.left ∙ c.in_ok-land_lines-in-Wrote.ensures.left)
    (c.in_ok-write-in-Wrote.ensures.same.new_bytes ∙ c.in_ok-land_lines-in-Wrote.ensures.main.new_bytes)
    (ap (λ n. drop n c.args.landed.now) c.in_ok-write-in-Wrote.ensures.same.used ∙ c.in_ok-land_lines-in-Wrote.ensures.used)

pub returns-in_ok-land_lines-in-WritePending-clause-shows : goal.returns-in_ok-land_lines-in-WritePending-clause-shows
returns-in_ok-land_lines-in-WritePending-clause-shows c = λ m before. shows_pending _ _ _ m before _ _ _ _ _ c.in-WritePending.is c.requires.own c.in_ok-land_lines-in-WritePending.ensures.main.main c.in_ok-land_lines-in-WritePending.ensures.left c.in_ok-land_lines-in-WritePending.ensures.main.new_bytes c.in_ok-land_lines-in-WritePending.ensures.used

pub returns-in-Cut-clause-shows : goal.returns-in-Cut-clause-shows
returns-in-Cut-clause-shows c = λ m before. shows_cut _ _ _ m before _ _ _ c.in-Cut.is
    (c.cut.ensures.main ∙ ap (option_map (take c.in-Cut.to)) c.land_cut.ensures.main.main)
    (c.cut.ensures.same.left ∙ c.land_cut.ensures.left)
    (c.cut.ensures.same.new_bytes ∙ c.land_cut.ensures.main.new_bytes)
    (ap (λ n. drop n c.args.landed.now) c.cut.ensures.same.used ∙ c.land_cut.ensures.used)

pub returns-in-CutPending-clause-shows : goal.returns-in-CutPending-clause-shows
returns-in-CutPending-clause-shows c = λ m before. shows_cut_pending _ _ _ m before _ _ _ c.in-CutPending.is c.land_cut-in-CutPending.ensures.main.main c.land_cut-in-CutPending.ensures.left c.land_cut-in-CutPending.ensures.main.new_bytes c.land_cut-in-CutPending.ensures.used

pub returns-in_ok-land_new-in-PublishPending-clause-shows : goal.returns-in_ok-land_new-in-PublishPending-clause-shows
returns-in_ok-land_new-in-PublishPending-clause-shows c = λ m before. shows_new _ _ _ m before _ _ c.in-PublishPending.is c.in_ok-land_new-in-PublishPending.ensures.main.main c.in_ok-land_new-in-PublishPending.ensures.left c.in_ok-land_new-in-PublishPending.ensures.main.new_bytes c.in_ok-land_new-in-PublishPending.ensures.used
