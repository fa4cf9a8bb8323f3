use Rattle.std.proofs.Common.{◌∙◌, sym}
use Rattle.base_devices.proofs.Lengths.{told_length, told_there}
use Rattle.base_devices.proofs.FrameLemmas.{durable_stays, less_of_stays, less_of_sync, less_then}
use Rattle.flat_db.proofs.OpeningLemmas.{opens_disk}
use Rattle.flat_db.proofs.ShowingLemmas.{shows_from, shown_ties}
use Rattle.flat_db.proofs.showing.open_shown.Goals as goal

pub sync-requires : goal.sync-requires
sync-requires g c = told_there _ c.in_ok-size.size (λ main is. c.in_ok-size.ensures.answered main (sym c.file_size.ensures.stays.main.reads ∙ is))

pub read_shown-requires-clause-size : goal.read_shown-requires-clause-size
read_shown-requires-clause-size g c = told_length _ c.in_ok-size.size (λ main is. c.in_ok-size.ensures.answered main (sym c.file_size.ensures.stays.main.reads ∙ sym c.in-Ok.ensures.sync.reads ∙ is))

pub returns-clause-shows : goal.returns-clause-shows
returns-clause-shows g c = shows_from (g.D.Disk.state c.args.disk.now) (g.D.Disk.state c.sync.new.self) c.in_ok-shown.shown (c.in-Ok.ensures.sync.reads ∙ c.file_size.ensures.stays.main.reads) c.in_ok-shown.ensures.shows

pub returns-clause-tied : goal.returns-clause-tied
returns-clause-tied g c =
    shown_ties (g.D.Disk.state c.sync.new.self) (g.D.Disk.state c.read_shown.new.disk) c.in_ok-shown.shown c.in_ok-shown.ensures.shows
    (durable_stays (g.D.Disk.state c.sync.new.self) (g.D.Disk.state c.read_shown.new.disk) c.read_shown.ensures.stays c.in-Ok.ensures.sync.durable) c.read_shown.ensures.stays.main.reads

pub returns-clause-disk : goal.returns-clause-disk
returns-clause-disk g c =
    let on = g.met.D.Disk.rest_goes_on in
    let old = c.args.disk.now in
    let asked = c.file_size.new.disk in
    let synced = c.sync.new.self in
    let read = c.read_shown.new.disk in
    let state = g.D.Disk.state in
    let first = less_of_stays (state old) (state asked) c.file_size.ensures.stays c.file_size.ensures.fresh in
    let second = less_of_sync (state asked) (state synced) c.sync.result c.sync.ensures.call c.sync.ensures.sync in
    let third = less_of_stays (state synced) (state read) c.read_shown.ensures.stays c.read_shown.ensures.fresh in
    opens_disk (state old) (state read) _
    (less_then (state old) (state synced) (state read) (on _ _ (g.met.D.Disk.rest_then _ _ _ c.file_size.ensures.rest c.sync.ensures.rest)) (on _ _ c.read_shown.ensures.rest)
    (less_then (state old) (state asked) (state synced) (on _ _ c.file_size.ensures.rest) (on _ _ c.sync.ensures.rest) first second) third)
    (durable_stays (state synced) (state read) c.read_shown.ensures.stays c.in-Ok.ensures.sync.durable) tt
