-- A value of flat text was looked for and printed, or its text shown as it stands: the task is done over the map of what was read.
use Rattle.std.proofs.Common.{◌≡◌, inr, ℕ, false, List, [], ◌∷◌, ◌++◌, Option, Ok, refl, sym, ◌∙◌, ap, subst, arith}
use Rattle.base_devices.specs.CrashImages.{Image, DiskState, GoesOn, IsMoment, WhereRead}
use Rattle.base_devices.specs.HostCalls.{HostState, moment}
use Rattle.base_notes.specs.declared.action.Action.{Action}
use Rattle.base_notes.specs.declared.action.Action.TheVariants.{Get, Show}
use Rattle.base_bytes.specs.OrderedMap.{Map}
use Rattle.base_notes.specs.declared.note.Note.{Note}
use Rattle.base_notes.specs.declared.note.Note.TheVariants.{Done}
use Rattle.db_core.specs.Opening.{OpensTo, OpensDisk}
use Rattle.db_core.specs.Sessions.{DbLaws, DbState, at_rest}
use Rattle.db_tool.specs.Doing.{DoesTask, Looks, during}
use Rattle.db_tool.specs.Tasks.{Given, found_note, found_output, task_of}
use Rattle.db_tool.proofs.TaskLemmas.{found_does, found_draws, shown_does}
use Rattle.db_tool.specs.Printing.{pair_text, shown}
use Rattle.flat_db.specs.Opening.{HasValue, flat_opens}
use Rattle.flat_db.specs.Sessions.{FlatSession, flat_kind}
use Rattle.flat_db.specs.Showing.{bare_text, ReadsBare}
use Rattle.flat_db.specs.declared.showing.Shown.{Shown}
use Rattle.rand_core.specs.Stream.{Stream}
use Rattle.cyr_top.specs.Actions.{DoesAction, DrawsFor}
use Rattle.cyr_top.specs.Asked.{asking}
use Rattle.cyr_top.proofs.ActLemmas.{done_of, opened_does, opened_draws}

module _ (laws : DbLaws flat_kind) (key : List ℕ) (value : Option (List ℕ)) (given_words : Given) (o q p : HostState) (d x e : DiskState) (note : Note)
    (dx : GoesOn d x) (xe : GoesOn x e) (moment_x : IsMoment x) (moment_e : IsMoment e) (silent : q ≡ o)
    (has : HasValue key value d) (disk : OpensDisk {B = Option (List ℕ)} flat_kind d x (Ok value)) (reads : x.reads ≡ d.reads) (stood : x.faults ≡ d.faults)
    (looks : Looks (found_note key value) (found_output key value) (moment x q) (moment e p) note) where
  -- the session over the map of what was read
  abbrev s : DbState
  s = at_rest has.map 0

  opens : WhereRead d (λ main. OpensTo flat_kind main s)
  opens main is = let file = has.opens main is in record { bytes = file.bytes; there = file.there; map = has.map; opens = file; rests = refl }

  -- what was read is on the disk
  stays : (c : Image) → x.leaves c → flat_opens c has.map
  stays c left = has.opens c (sym reads ∙ disk.durable.only c left)

  task : DoesTask flat_kind (task_of flat_kind s given_words (Get key)) (during x q s) (during e p s) note
  task = found_does flat_kind s given_words (moment x q) (moment e p) key value note refl stays has.found looks

  pub got_does : DoesAction (asking flat_kind false (Get key) given_words) (moment d o) (moment e p) note
  got_does = opened_does flat_kind laws (Get key) given_words value s s o q p d x e note dx xe moment_x moment_e (λ is. cc is) silent opens disk stood (done_of flat_kind (Get key) _ _ _ note task)
      (λ _ c left. stays c (looks.disk.keeps.leaves.no_more c left))

  pub got_draws : (words : Stream) → DrawsFor (asking flat_kind false (Get key) given_words) d words words note
  got_draws words = opened_draws flat_kind laws (Get key) given_words value s s o q p d x e note dx xe moment_x moment_e (λ is. cc is) silent opens disk stood (done_of flat_kind (Get key) _ _ _ note task)
      (λ _ c left. stays c (looks.disk.keeps.leaves.no_more c left)) words words (found_draws flat_kind s given_words key words note)

-- ---- a text that is shown as it stands

-- its pairs as they are are what is shown
shown_bare : (m : Map) → bare_text m ≡ shown m
shown_bare [] = refl
shown_bare (p ∷ m) = ap (λ (l : List ℕ). pair_text p ++ l) (shown_bare m)

-- what opened to be shown opened to a session
pub opens_session : (d x : DiskState) (from : Shown) (db : FlatSession) → OpensDisk {B = Shown} flat_kind d x (Ok from) → OpensDisk {B = FlatSession} flat_kind d x (Ok db)
opens_session d x from db disk = record { each = disk.each; mark = disk.mark; publishes = disk.publishes; settled = disk.settled; unopened = tt; durable = disk.durable; synced = tt }

module _ (laws : DbLaws flat_kind) (action : Action) (all : action ≡ Show []) (text : List ℕ) (from : Shown) (given_words : Given) (o q p : HostState) (d x e : DiskState) (note : Note)
    (dx : GoesOn d x) (xe : GoesOn x e) (moment_x : IsMoment x) (moment_e : IsMoment e) (silent : q ≡ o)
    (has : ReadsBare text d) (disk : OpensDisk {B = Shown} flat_kind d x (Ok from)) (reads : x.reads ≡ d.reads) (stood : x.faults ≡ d.faults)
    (looks : Looks Done text (moment x q) (moment e p) note) where
  abbrev shows : DbState
  shows = at_rest has.map 0

  shows_opens : WhereRead d (λ main. OpensTo flat_kind main shows)
  shows_opens main is = let file = has.opens main is in record { bytes = file.bytes; there = file.there; map = has.map; opens = file; rests = refl }

  shows_stays : (c : Image) → x.leaves c → flat_opens c has.map
  shows_stays c left = has.opens c (sym reads ∙ disk.durable.only c left)

  shows_task : DoesTask flat_kind (task_of flat_kind shows given_words (Show [])) (during x q shows) (during e p shows) note
  shows_task = shown_does flat_kind shows given_words (moment x q) (moment e p) text note refl shows_stays (has.bare ∙ shown_bare has.map) looks

  pub shown_all : DoesAction (asking flat_kind false action given_words) (moment d o) (moment e p) note
  shown_all = subst (λ (a : Action). DoesAction (asking flat_kind false a given_words) (moment d o) (moment e p) note) (sym all)
      (opened_does flat_kind laws (Show []) given_words from shows shows o q p d x e note dx xe moment_x moment_e (λ is. cc is) silent shows_opens disk stood (done_of flat_kind (Show []) _ _ _ note shows_task)
      (λ _ c left. shows_stays c (looks.disk.keeps.leaves.no_more c left)))

  pub shown_draws : (words : Stream) → DrawsFor (asking flat_kind false action given_words) d words words note
  shown_draws words = subst (λ (a : Action). DrawsFor (asking flat_kind false a given_words) d words words note) (sym all)
      (opened_draws flat_kind laws (Show []) given_words from shows shows o q p d x e note dx xe moment_x moment_e (λ is. cc is) silent shows_opens disk stood (done_of flat_kind (Show []) _ _ _ note shows_task)
      (λ _ c left. shows_stays c (looks.disk.keeps.leaves.no_more c left)) words words (record { count = 0; drawn = refl; within = omega arith; whole = inr refl }))
