use Rattle.std.proofs.Common.{◌≡◌, ◌∙◌, Bool, false, Some, None, ap, refl, sym, subst}
use Rattle.base_notes.specs.declared.note.Note.{Note}
use Rattle.db_core.specs.Sessions.{DbState, over}
use Rattle.db_script.specs.Batch.{GoesWell}
use Rattle.db_script.specs.Lines.{command_of}
use Rattle.db_script.specs.Moments.{LeavesLine}
use Rattle.db_script.specs.Replies.{is_placed}
use Rattle.db_script.specs.Steps.{LineEnds, LineMoment, asked, gathered}
use Rattle.db_tool.specs.Printing.{holding}
use Rattle.db_tool.proofs.PrintLemmas.{printed_still}
use Rattle.db_script.proofs.RefusalLemmas.{goes_on_well}
use Rattle.db_script.proofs.StepLemmas.{line_refused, line_done, line_cut, line_leaves, line_refused_leaves, still_sound}
use Rattle.db_script.proofs.batching.do_line.Goals as goal

pub returns-in-Err-clause-well : goal.returns-in-Err-clause-well
returns-in-Err-clause-well g c =
    subst (λ (note : Note). GoesWell g.B.Db.kind (over (g.H.Disk.state c.args.host.now) (g.B.Db.state c.args.db.now)) (over (g.H.Disk.state c.act.new.host) (g.B.Db.state c.act.new.db)) note) (sym c.note_of_change.ensures)
    (goes_on_well g.B.Db.kind c.args.word (command_of c.args.line.now) _ _ c.in-Err.fault c.requires.sound c.in-Err.ensures.does)

pub returns-in-Err-clause-does : goal.returns-in-Err-clause-does
returns-in-Err-clause-does g c =
    let a = asked c.args.number c.args.word (command_of c.args.line.now) in
    let old : LineMoment = gathered (g.B.Db.state c.args.db.now) (holding c.args.output.now (g.H.Disk.state c.args.host.now) (g.H.Host.streams c.args.host.now)) in
    let new : LineMoment = gathered (g.B.Db.state c.act.new.db) (holding c.args.output.now (g.H.Disk.state c.act.new.host) (g.H.Host.streams c.act.new.host)) in
    let nothing = printed_still old.output.host new.output.host (g.met.H.Host.disk_keeps _ _ c.in-Err.ensures.rest) c.in-Err.ensures.does.disk.mark in
    subst (λ (note : Note). LineEnds g.B.Db.kind a old new note) (sym c.note_of_change.ensures)
    (line_refused g.B.Db.kind a old new c.in-Err.fault (sym (c.if-not-is_placed.ensures ∙ ap (λ (b : Bool). is_placed b (command_of c.args.line.now)) c.in_transaction-in_transaction.ensures)) c.in-Err.ensures.does.refused c.in-Err.ensures.does.after refl nothing)

pub returns-in-Ok-clause-does : goal.returns-in-Ok-clause-does
returns-in-Ok-clause-does g c =
    let a = asked c.args.number c.args.word (command_of c.args.line.now) in
    let old : LineMoment = gathered (g.B.Db.state c.args.db.now) (holding c.args.output.now (g.H.Disk.state c.args.host.now) (g.H.Host.streams c.args.host.now)) in
    let mid : LineMoment = gathered (g.B.Db.state c.act.new.db) (holding c.args.output.now (g.H.Disk.state c.act.new.host) (g.H.Host.streams c.act.new.host)) in
    let nothing = printed_still old.output.host mid.output.host (g.met.H.Host.disk_keeps _ _ c.in_default.ensures.rest) c.in_default.ensures.does.disk.mark in
    line_done g.B.Db.kind a old mid _ _ c.in_transaction-in_transaction.ensures (sym (c.if-not-is_placed.ensures ∙ ap (λ (b : Bool). is_placed b (command_of c.args.line.now)) c.in_transaction-in_transaction.ensures)) c.in_default.ensures.does.ok c.in_default.ensures.does.done refl nothing tt refl c.in-Ok.ensures.prints

pub returns-in-Err-reply-clause-does : goal.returns-in-Err-reply-clause-does
returns-in-Err-reply-clause-does g c =
    let a = asked c.args.number c.args.word (command_of c.args.line.now) in
    let old : LineMoment = gathered (g.B.Db.state c.args.db.now) (holding c.args.output.now (g.H.Disk.state c.args.host.now) (g.H.Host.streams c.args.host.now)) in
    let mid : LineMoment = gathered (g.B.Db.state c.act.new.db) (holding c.args.output.now (g.H.Disk.state c.act.new.host) (g.H.Host.streams c.act.new.host)) in
    let nothing = printed_still old.output.host mid.output.host (g.met.H.Host.disk_keeps _ _ c.in_default.ensures.rest) c.in_default.ensures.does.disk.mark in
    line_cut g.B.Db.kind a old mid _ _ c.in_transaction-in_transaction.ensures (sym (c.if-not-is_placed.ensures ∙ ap (λ (b : Bool). is_placed b (command_of c.args.line.now)) c.in_transaction-in_transaction.ensures)) c.in_default.ensures.does.ok c.in_default.ensures.does.done refl nothing c.in-Err-reply.field-0 _ tt c.in-Err-reply.ensures.prints

pub returns-in-Err-clause-moments : goal.returns-in-Err-clause-moments
returns-in-Err-clause-moments g c =
    let a = asked c.args.number c.args.word (command_of c.args.line.now) in
    let old : LineMoment = gathered (g.B.Db.state c.args.db.now) (holding c.args.output.now (g.H.Disk.state c.args.host.now) (g.H.Host.streams c.args.host.now)) in
    let new : LineMoment = gathered (g.B.Db.state c.act.new.db) (holding c.args.output.now (g.H.Disk.state c.act.new.host) (g.H.Host.streams c.act.new.host)) in
    subst (λ (note : Note). LeavesLine g.B.Db.kind a old new (Some note)) (sym c.note_of_change.ensures)
    (line_refused_leaves g.B.Db.kind a old new c.in-Err.fault (sym (c.if-not-is_placed.ensures ∙ ap (λ (b : Bool). is_placed b (command_of c.args.line.now)) c.in_transaction-in_transaction.ensures)) c.requires.sound c.in-Err.ensures.does)

pub returns-in-Ok-clause-moments : goal.returns-in-Ok-clause-moments
returns-in-Ok-clause-moments g c =
    let a = asked c.args.number c.args.word (command_of c.args.line.now) in
    let old : LineMoment = gathered (g.B.Db.state c.args.db.now) (holding c.args.output.now (g.H.Disk.state c.args.host.now) (g.H.Host.streams c.args.host.now)) in
    let mid : LineMoment = gathered (g.B.Db.state c.act.new.db) (holding c.args.output.now (g.H.Disk.state c.act.new.host) (g.H.Host.streams c.act.new.host)) in
    let new : LineMoment = gathered (g.B.Db.state c.act.new.db) (holding c.reply.new.output (g.H.Disk.state c.reply.new.host) (g.H.Host.streams c.reply.new.host)) in
    let nothing = printed_still old.output.host mid.output.host (g.met.H.Host.disk_keeps _ _ c.in_default.ensures.rest) c.in_default.ensures.does.disk.mark in
    let sound : (g.B.Db.state c.act.new.db).is_broken ≡ false = ap (λ (s : DbState). s.is_broken) c.in_default.ensures.does.done ∙ still_sound g.B.Db.kind c.args.word old.session (command_of c.args.line.now) ∙ c.requires.sound in
    line_leaves g.B.Db.kind a old mid new _ c.in_transaction-in_transaction.ensures (sym (c.if-not-is_placed.ensures ∙ ap (λ (b : Bool). is_placed b (command_of c.args.line.now)) c.in_transaction-in_transaction.ensures)) c.in_default.ensures.does.ok c.in_default.ensures.does.done refl nothing
    None _ tt c.requires.sound c.in_default.ensures.does.disk c.in_default.ensures.does.idle (g.met.H.Disk.rest_goes_on _ _ c.in_default.ensures.rest) (g.met.H.Host.host_goes_on _ _ c.reply.ensures.rest)
    (g.met.B.Db.tie_opens _ _ sound c.in_default.ensures.tied) c.in-Ok.ensures.prints

pub returns-in-Err-reply-clause-moments : goal.returns-in-Err-reply-clause-moments
returns-in-Err-reply-clause-moments g c =
    let a = asked c.args.number c.args.word (command_of c.args.line.now) in
    let old : LineMoment = gathered (g.B.Db.state c.args.db.now) (holding c.args.output.now (g.H.Disk.state c.args.host.now) (g.H.Host.streams c.args.host.now)) in
    let mid : LineMoment = gathered (g.B.Db.state c.act.new.db) (holding c.args.output.now (g.H.Disk.state c.act.new.host) (g.H.Host.streams c.act.new.host)) in
    let new : LineMoment = gathered (g.B.Db.state c.act.new.db) (holding c.reply.new.output (g.H.Disk.state c.reply.new.host) (g.H.Host.streams c.reply.new.host)) in
    let nothing = printed_still old.output.host mid.output.host (g.met.H.Host.disk_keeps _ _ c.in_default.ensures.rest) c.in_default.ensures.does.disk.mark in
    let sound : (g.B.Db.state c.act.new.db).is_broken ≡ false = ap (λ (s : DbState). s.is_broken) c.in_default.ensures.does.done ∙ still_sound g.B.Db.kind c.args.word old.session (command_of c.args.line.now) ∙ c.requires.sound in
    line_leaves g.B.Db.kind a old mid new _ c.in_transaction-in_transaction.ensures (sym (c.if-not-is_placed.ensures ∙ ap (λ (b : Bool). is_placed b (command_of c.args.line.now)) c.in_transaction-in_transaction.ensures)) c.in_default.ensures.does.ok c.in_default.ensures.does.done refl nothing
    (Some _) _ tt c.requires.sound c.in_default.ensures.does.disk c.in_default.ensures.does.idle (g.met.H.Disk.rest_goes_on _ _ c.in_default.ensures.rest) (g.met.H.Host.host_goes_on _ _ c.reply.ensures.rest)
    (g.met.B.Db.tie_opens _ _ sound c.in_default.ensures.tied) c.in-Err-reply.ensures.prints
