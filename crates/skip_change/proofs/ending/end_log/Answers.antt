use Rattle.std.proofs.Common.{List, length, sym, subst, ◌∙◌, arith}
use Rattle.base_devices.specs.CrashImages.{Image}
use Rattle.base_devices.proofs.Moments.{next_call}
use Rattle.skip_spec.specs.Chain.{Entry, pairs}
use Rattle.skip_spec.specs.Live.{live_under}
use Rattle.skip_spec.specs.Opens.{Opens}
use Rattle.skip_spec.proofs.Lives.{bytes_live}
use Rattle.skip_lists.specs.Tie.{OnBytes, AreKnown}
use Rattle.skip_lists.proofs.Ties.{tied_to_base, left_opens, then_up_to, same_up_to}
use Rattle.skip_change.proofs.Ended.{live_ended, tied_by, tied_up_to, no_absent, synced_tie}
use Rattle.skip_change.proofs.ending.end_log.Goals as goal

pub sync-requires : goal.sync-requires
sync-requires g c = no_absent (g.D.Disk.state c.write_record.new.disk) c.write_record.new.image.bytes c.in_ok-write_record.ensures.reads

pub returns-in_err-write_record-clause-live : goal.returns-in_err-write_record-clause-live
returns-in_err-write_record-clause-live g c = live_ended c.args.image.now.bytes c.write_record.new.image.bytes c.args.start c.write_record.ensures.bytes c.write_record.ensures.form c.write_record.ensures.fits

pub returns-in_err-sync-clause-live : goal.returns-in_err-sync-clause-live
returns-in_err-sync-clause-live g c = live_ended c.args.image.now.bytes c.write_record.new.image.bytes c.args.start c.write_record.ensures.bytes c.write_record.ensures.form c.write_record.ensures.fits

pub returns-clause-live : goal.returns-clause-live
returns-clause-live g c = live_ended c.args.image.now.bytes c.write_record.new.image.bytes c.args.start c.write_record.ensures.bytes c.write_record.ensures.form c.write_record.ensures.fits

pub returns-clause-reads : goal.returns-clause-reads
returns-clause-reads g c = λ told. c.in_ok-sync.ensures.sync.reads ∙ c.in_ok-write_record.ensures.reads ((g.met.D.Disk.rest_goes_on _ _ c.sync.ensures.rest).telling.0 told)

pub returns-clause-tied : goal.returns-clause-tied
returns-clause-tied g c = λ base says t.
    let b = c.args.image.now.bytes in
    let new = c.write_record.new.image.bytes in
    let first = c.in_ok-write_record.ensures.tied base says (tied_to_base base b says (g.D.Disk.state c.args.disk.now) t) in
    let live = c.requires.live in
    let now = live_ended b new c.args.start c.write_record.ensures.bytes c.write_record.ensures.form c.write_record.ensures.fits live.0 live.1 live.2 in
    let known : AreKnown says (live_under new (length new)) = subst (λ (l : List Entry). AreKnown says l) (bytes_live b live.0 live.1 live.2 ∙ sym (bytes_live new _ live.1 now)) t.known in
    let up = c.write_record.ensures.long (length new) (omega arith) (λ i left. let is = tied_up_to base b says (g.D.Disk.state c.args.disk.now) t i left in (is.0, is.1, omega (arith, is.2, c.write_record.ensures.length))) in
    synced_tie base new says (g.D.Disk.state c.write_record.new.disk) (g.D.Disk.state c.sync.new.self) (tied_by base new says (g.D.Disk.state c.write_record.new.disk) first t.tidy known up.0) c.sync.ensures.sync.crash (returns-clause-reads g c)

pub returns-in_err-write_record-clause-moments : goal.returns-in_err-write_record-clause-moments
returns-in_err-write_record-clause-moments g c = λ base says t. c.write_record.ensures.moments base says (tied_to_base base c.args.image.now.bytes says (g.D.Disk.state c.args.disk.now) t)

pub returns-in_err-sync-clause-moments : goal.returns-in_err-sync-clause-moments
returns-in_err-sync-clause-moments g c = λ base says t.
    let on = g.met.D.Disk.rest_goes_on in
    let old = tied_to_base base c.args.image.now.bytes says (g.D.Disk.state c.args.disk.now) t in
    let first = c.in_ok-write_record.ensures.tied base says old in
    let Q = OnBytes (λ file. Opens file (pairs says.chain)) in
    let opens : (i : Image) → (g.D.Disk.state c.write_record.new.disk).leaves i → Q i = λ i left. left_opens base c.write_record.new.image.bytes says (g.D.Disk.state c.write_record.new.disk) first i (first.left i left) in
    next_call _ _ _ Q (on _ _ c.write_record.ensures.rest).later c.write_record.ensures.mark (on _ _ c.sync.ensures.rest) c.sync.ensures.call
    (c.write_record.ensures.moments base says old) opens (λ i left. opens i (c.sync.ensures.sync.crash i left))

pub returns-clause-moments : goal.returns-clause-moments
returns-clause-moments g c = λ base says t.
    let on = g.met.D.Disk.rest_goes_on in
    let old = tied_to_base base c.args.image.now.bytes says (g.D.Disk.state c.args.disk.now) t in
    let first = c.in_ok-write_record.ensures.tied base says old in
    let Q = OnBytes (λ file. Opens file (pairs says.chain)) in
    let opens : (i : Image) → (g.D.Disk.state c.write_record.new.disk).leaves i → Q i = λ i left. left_opens base c.write_record.new.image.bytes says (g.D.Disk.state c.write_record.new.disk) first i (first.left i left) in
    next_call _ _ _ Q (on _ _ c.write_record.ensures.rest).later c.write_record.ensures.mark (on _ _ c.sync.ensures.rest) c.sync.ensures.call
    (c.write_record.ensures.moments base says old) opens (λ i left. opens i (c.sync.ensures.sync.crash i left))

pub returns-in_err-write_record-clause-long : goal.returns-in_err-write_record-clause-long
returns-in_err-write_record-clause-long g c = c.write_record.ensures.long

pub returns-in_err-sync-clause-long : goal.returns-in_err-sync-clause-long
returns-in_err-sync-clause-long g c = λ most le.
    let on = g.met.D.Disk.rest_goes_on in
    then_up_to most _ _ _ (on _ _ c.write_record.ensures.rest) (on _ _ c.sync.ensures.rest) c.write_record.ensures.mark (c.write_record.ensures.long most le) (same_up_to most _ _ c.sync.ensures.call c.sync.ensures.sync.crash)

pub returns-clause-long : goal.returns-clause-long
returns-clause-long g c = λ most le.
    let on = g.met.D.Disk.rest_goes_on in
    then_up_to most _ _ _ (on _ _ c.write_record.ensures.rest) (on _ _ c.sync.ensures.rest) c.write_record.ensures.mark (c.write_record.ensures.long most le) (same_up_to most _ _ c.sync.ensures.call c.sync.ensures.sync.crash)
