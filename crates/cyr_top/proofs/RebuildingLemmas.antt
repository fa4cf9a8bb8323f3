-- How a rebuild ends, and that its note and output are stated once.
use Rattle.std.proofs.Common.{◌≡◌, ◌⊎◌, inl, inr, ⊎_elim, ℕ, true, false, List, [], Option, Some, None, length, refl, sym, ap, subst, ◌∙◌, arith}
use Rattle.std.proofs.lemmas.List.{append-nil, take_all}
use Rattle.base_devices.specs.Causes.{Rose}
use Rattle.base_devices.specs.CrashImages.{DiskState, Image, IsDurable, IsMoment}
use Rattle.base_devices.specs.Frames.{KeepsFile, LeavesBetween, SameDisk}
use Rattle.base_devices.specs.HostCalls.{HostMoment, HostState, moment, told_with}
use Rattle.base_devices.proofs.FrameLemmas.{between_still, file_still}
use Rattle.base_devices.proofs.Moments.{durable_still}
use Rattle.base_notes.specs.declared.action.Options.{Options}
use Rattle.base_notes.specs.declared.note.Device.TheVariants.{Host, Spool}
use Rattle.base_notes.specs.declared.note.Note.{Note}
use Rattle.base_notes.specs.declared.note.Note.TheVariants.{Done, DeviceFault, Memory}
use Rattle.db_tool.specs.ToolNotes.{Faults, IsCutOff}
use Rattle.mail_rebuild.specs.OldFile.{IsDiskFault, IsTooBig}
use Rattle.mail_rebuild.specs.Rebuilds.{AreContents, Contents, IsEarly, IsHostFault, IsReport, IsWriteFault, LimitIsPassed, MayBeNew, NoLimitIsPassed, PrintsSome, Rebuilds, Task}
use Rattle.mail_rebuild.specs.Report.{report}
use Rattle.mail_rebuild.specs.Taking.{IsSpoolFault}
use Rattle.mail_rebuild.specs.declared.fault.RebuildFault.{RebuildFault}
use Rattle.mail_rebuild.specs.declared.fault.RebuildFault.TheVariants.{DiskFault, ModseqFull, NoMemory, SpoolFault, TooBig, TooMany, WriteFault}
use Rattle.mail_rebuild.specs.declared.report.Tally.{Tally}
use Rattle.mail_rebuild.proofs.ContentsLemmas.{contents_once}
use Rattle.tool_words.specs.declared.jobs.Job.{Job}
use Rattle.tool_words.specs.declared.jobs.Job.TheVariants.{Reconstruct}
use Rattle.cyr_top.specs.Actions.{but_warned}
use Rattle.cyr_top.specs.Stated.{IsBuilt}
use Rattle.cyr_top.specs.Rebuilding.{AskedRebuild, DoesRebuild, IsExactly, IsRebuildNote, IsStatedRebuild, OfTask, OnFolder, StatedRebuild, rebuild_note, rebuilt, too_many, too_big, number_full}

-- ---- note and output are stated once

report_once : (task : Task) (a b : List ℕ) → IsReport task a → IsReport task b → a ≡ b
report_once task a b one other =
    let same = contents_once task.files task.old one.0 other.0 one.1 other.1 in
    one.2 ∙ ap (λ (c : Contents). report task.options task.old c.messages c.uids c.odd) same ∙ sym other.2

number_is_full : (task : Task) → NoLimitIsPassed task → LimitIsPassed ModseqFull task → ⊥
number_is_full task none full =
    let same = contents_once task.files task.old full.1 none.1 full.2 none.2 in
    none.3 (subst (λ (c : Contents). Rattle.mail_rebuild.specs.Rebuilds.IsModseqFull task.old c.messages) same full.3)

size_once : (main : Image) (a b : ℕ) → IsTooBig main a → IsTooBig main b → a ≡ b
size_once main a b one other =
    let same : one.bytes ≡ other.bytes = cc (sym one.there ∙ other.there) in
    omega (arith, one.counted, other.counted, ap length same)

pub stated_rebuild_once : (task : Task) (n m : Note) (a b : List ℕ) → StatedRebuild task n a → StatedRebuild task m b → (n ≡ m) × (a ≡ b)
stated_rebuild_once task n m a b (rebuilt in_limits is note) (rebuilt in_limits_too is_too note_too) = (note ∙ sym note_too, report_once task a b is is_too)
stated_rebuild_once task n m a b (rebuilt in_limits is note) (too_many passed note_too none) = absurd (omega (arith, in_limits.0.few, passed))
stated_rebuild_once task n m a b (rebuilt in_limits is note) (too_big size passed note_too none) = absurd (in_limits.0.small size passed.1)
stated_rebuild_once task n m a b (rebuilt in_limits is note) (number_full passed note_too none) = absurd (number_is_full task in_limits passed)
stated_rebuild_once task n m a b (too_many passed note none) (rebuilt in_limits is note_too) = absurd (omega (arith, in_limits.0.few, passed))
stated_rebuild_once task n m a b (too_many passed note none) (too_many passed_too note_too none_too) = (note ∙ sym note_too, none ∙ sym none_too)
stated_rebuild_once task n m a b (too_many passed note none) (too_big size passed_too note_too none_too) = absurd (omega (arith, passed, passed_too.0))
stated_rebuild_once task n m a b (too_many passed note none) (number_full passed_too note_too none_too) = absurd (omega (arith, passed, passed_too.0.few))
stated_rebuild_once task n m a b (too_big size passed note none) (rebuilt in_limits is note_too) = absurd (in_limits.0.small size passed.1)
stated_rebuild_once task n m a b (too_big size passed note none) (too_many passed_too note_too none_too) = absurd (omega (arith, passed_too, passed.0))
stated_rebuild_once task n m a b (too_big size passed note none) (too_big other passed_too note_too none_too) =
    (note ∙ ap (λ k. rebuild_note (TooBig k)) (size_once task.old size other passed.1 passed_too.1) ∙ sym note_too, none ∙ sym none_too)
stated_rebuild_once task n m a b (too_big size passed note none) (number_full passed_too note_too none_too) = absurd (passed_too.0.small size passed.1)
stated_rebuild_once task n m a b (number_full passed note none) (rebuilt in_limits is note_too) = absurd (number_is_full task in_limits passed)
stated_rebuild_once task n m a b (number_full passed note none) (too_many passed_too note_too none_too) = absurd (omega (arith, passed.0.few, passed_too))
stated_rebuild_once task n m a b (number_full passed note none) (too_big size passed_too note_too none_too) = absurd (passed.0.small size passed_too.1)
stated_rebuild_once task n m a b (number_full passed note none) (number_full passed_too note_too none_too) = (note ∙ sym note_too, none ∙ sym none_too)

pub exactly_so : (task : Task) (old new : HostMoment) (note : Note) → IsCutOff note ⊎ IsStatedRebuild task old new note → IsExactly old new note task
exactly_so task old new note (inl cut) = λ wanted output is. inl cut
exactly_so task old new note (inr met) = λ wanted output is.
    let same = stated_rebuild_once task note wanted met.output output met.result is in
    inr (same.0, met.told ∙ ap (told_with old.streams.told) same.1)

-- ---- after `Done`

whole_report : (task : Task) (old new : HostMoment) (tally : Tally) → Rebuilds task old new tally → PrintsSome task old new
whole_report task old new tally is =
    inr (is.text, is.report, length is.text, is.printed ∙ ap (told_with old.streams.told) (sym (take_all (length is.text) is.text (omega arith))))

pub done_stated : (task : Task) (old new : HostMoment) (tally : Tally) → NoLimitIsPassed task → Rebuilds task old new tally → IsStatedRebuild task old new Done
done_stated task old new tally in_limits is = record { output = is.text; result = rebuilt in_limits is.report refl; told = is.printed }

pub does_done : (asked : AskedRebuild) (old new : HostMoment) (tally : Tally)
    → OfTask asked old.disk (λ task. Rebuilds task old new tally) → OfTask asked old.disk NoLimitIsPassed
    → (asked.options.dry ≡ false → IsDurable new.disk)
    → LeavesBetween old.disk new.disk (λ c. old.disk.leaves c ⊎ OfTask asked old.disk (MayBeNew c))
    → (asked.options.dry ≡ true → KeepsFile old.disk new.disk) → (asked.options.dry ≡ true → new.disk.reads ≡ old.disk.reads)
    → new.streams.warned ≡ old.streams.warned → new.disk.faults ≡ old.disk.faults → DoesRebuild asked old new Done
does_done asked old new tally is in_limits durable each dry dry_reads warned same = record {
  rebuilt = λ e files main shown read. (tally, is files main shown read);
  durable = λ e. durable;
  each = each;
  dry = dry;
  dry_reads = λ no e. dry_reads no;
  refused = inl refl;
  stated = λ files main shown read. inr (done_stated _ old new tally (in_limits files main shown read) (is files main shown read));
  exactly = λ files main shown read. exactly_so _ old new Done (inr (done_stated _ old new tally (in_limits files main shown read) (is files main shown read)));
  prints = λ files main shown read. whole_report _ old new tally (is files main shown read);
  silent = λ no no_fault. absurd (no refl);
  warned = warned;
  faults = record { rose = λ e. absurd (cc e); stood = λ no. same };
  notes = tt;
}

-- ---- after a refusal

not_done : (fault : RebuildFault) → rebuild_note fault ≡ Done → ⊥
not_done SpoolFault e = cc e
not_done TooMany e = cc e
not_done (TooBig size) e = cc e
not_done ModseqFull e = cc e
not_done DiskFault e = cc e
not_done WriteFault e = cc e
not_done NoMemory e = cc e

rebuild_notes : (fault : RebuildFault) → IsRebuildNote (rebuild_note fault)
rebuild_notes SpoolFault = tt
rebuild_notes TooMany = tt
rebuild_notes (TooBig size) = tt
rebuild_notes ModseqFull = tt
rebuild_notes DiskFault = tt
rebuild_notes WriteFault = tt
rebuild_notes NoMemory = tt

-- only a fault of the disk behind the report leaves another file
file_kept : (fault : RebuildFault) (old new : HostMoment) → IsDiskFault fault ⊎ KeepsFile old.disk new.disk → IsWriteFault fault ⊎ (new.streams.tell_faults ≡ old.streams.tell_faults)
    → (rebuild_note fault ≡ Done) ⊎ KeepsFile old.disk new.disk ⊎ ((rebuild_note fault ≡ DeviceFault Host) × (new.streams.tell_faults ≡ old.streams.tell_faults))
file_kept fault old new (inr keeps) tell = inr (inl keeps)
file_kept DiskFault old new (inl is) (inr same) = inr (inr (refl, same))
file_kept DiskFault old new (inl is) (inl failed) = absurd failed
file_kept SpoolFault old new (inl is) tell = absurd is
file_kept TooMany old new (inl is) tell = absurd is
file_kept (TooBig size) old new (inl is) tell = absurd is
file_kept ModseqFull old new (inl is) tell = absurd is
file_kept WriteFault old new (inl is) tell = absurd is
file_kept NoMemory old new (inl is) tell = absurd is

nothing_told : (told : Option (List ℕ)) → told_with told [] ≡ told
nothing_told None = refl
nothing_told (Some bytes) = ap Some (append-nil bytes)

pub silent_so : (fault : RebuildFault) (old new : HostMoment) → (IsEarly fault → new.streams ≡ old.streams) → (rebuild_note fault ≡ Done → ⊥) → (rebuild_note fault ≡ DeviceFault Host → ⊥) → new.streams.told ≡ old.streams.told
silent_so SpoolFault old new early unlike no_fault = ap (λ (s : HostState). s.told) (early tt)
silent_so TooMany old new early unlike no_fault = ap (λ (s : HostState). s.told) (early tt)
silent_so (TooBig size) old new early unlike no_fault = ap (λ (s : HostState). s.told) (early tt)
silent_so ModseqFull old new early unlike no_fault = ap (λ (s : HostState). s.told) (early tt)
silent_so DiskFault old new early unlike no_fault = absurd (no_fault refl)
silent_so WriteFault old new early unlike no_fault = absurd (no_fault refl)
silent_so NoMemory old new early unlike no_fault = ap (λ (s : HostState). s.told) (early tt)

refused_stated : (fault : RebuildFault) (task : Task) (old new : HostMoment) → (IsEarly fault → new.streams ≡ old.streams) → LimitIsPassed fault task → IsCutOff (rebuild_note fault) ⊎ IsStatedRebuild task old new (rebuild_note fault)
refused_stated SpoolFault task old new early passed = inl (inl tt)
refused_stated DiskFault task old new early passed = inl (inl tt)
refused_stated WriteFault task old new early passed = inl (inl tt)
refused_stated NoMemory task old new early passed = inl (inr refl)
refused_stated TooMany task old new early passed = inr (record { output = []; result = too_many passed refl refl; told = ap (λ (s : HostState). s.told) (early tt) ∙ sym (nothing_told old.streams.told) })
refused_stated (TooBig size) task old new early passed = inr (record { output = []; result = too_big size passed refl refl; told = ap (λ (s : HostState). s.told) (early tt) ∙ sym (nothing_told old.streams.told) })
refused_stated ModseqFull task old new early passed = inr (record { output = []; result = number_full passed refl refl; told = ap (λ (s : HostState). s.told) (early tt) ∙ sym (nothing_told old.streams.told) })

host_faults : (fault : RebuildFault) (before now : ℕ) → (IsHostFault fault → Rose before now) → IsHostFault fault ⊎ (now ≡ before) → Faults Host (rebuild_note fault) before now
host_faults DiskFault before now rose stood = record { rose = λ e. rose tt; stood = λ no. absurd (no refl) }
host_faults WriteFault before now rose stood = record { rose = λ e. rose tt; stood = λ no. absurd (no refl) }
host_faults SpoolFault before now rose stood = record { rose = λ e. absurd (cc e); stood = λ no. ⊎_elim (λ is. absurd is) (λ same. same) stood }
host_faults TooMany before now rose stood = record { rose = λ e. absurd (cc e); stood = λ no. ⊎_elim (λ is. absurd is) (λ same. same) stood }
host_faults (TooBig size) before now rose stood = record { rose = λ e. absurd (cc e); stood = λ no. ⊎_elim (λ is. absurd is) (λ same. same) stood }
host_faults ModseqFull before now rose stood = record { rose = λ e. absurd (cc e); stood = λ no. ⊎_elim (λ is. absurd is) (λ same. same) stood }
host_faults NoMemory before now rose stood = record { rose = λ e. absurd (cc e); stood = λ no. ⊎_elim (λ is. absurd is) (λ same. same) stood }

pub spool_faults : (fault : RebuildFault) (before now : ℕ) → (IsSpoolFault fault → Rose before now) → IsSpoolFault fault ⊎ (now ≡ before) → Faults Spool (rebuild_note fault) before now
spool_faults SpoolFault before now rose stood = record { rose = λ e. rose tt; stood = λ no. absurd (no refl) }
spool_faults DiskFault before now rose stood = record { rose = λ e. absurd (cc e); stood = λ no. ⊎_elim (λ is. absurd is) (λ same. same) stood }
spool_faults WriteFault before now rose stood = record { rose = λ e. absurd (cc e); stood = λ no. ⊎_elim (λ is. absurd is) (λ same. same) stood }
spool_faults TooMany before now rose stood = record { rose = λ e. absurd (cc e); stood = λ no. ⊎_elim (λ is. absurd is) (λ same. same) stood }
spool_faults (TooBig size) before now rose stood = record { rose = λ e. absurd (cc e); stood = λ no. ⊎_elim (λ is. absurd is) (λ same. same) stood }
spool_faults ModseqFull before now rose stood = record { rose = λ e. absurd (cc e); stood = λ no. ⊎_elim (λ is. absurd is) (λ same. same) stood }
spool_faults NoMemory before now rose stood = record { rose = λ e. absurd (cc e); stood = λ no. ⊎_elim (λ is. absurd is) (λ same. same) stood }

pub does_refused : (asked : AskedRebuild) (old new : HostMoment) (fault : RebuildFault)
    → LeavesBetween old.disk new.disk (λ c. old.disk.leaves c ⊎ OfTask asked old.disk (MayBeNew c))
    → (asked.options.dry ≡ true → KeepsFile old.disk new.disk) → IsDiskFault fault ⊎ KeepsFile old.disk new.disk
    → (IsEarly fault → new.streams ≡ old.streams) → OfTask asked old.disk (λ task. PrintsSome task old new) → OfTask asked old.disk (LimitIsPassed fault)
    → (IsHostFault fault → Rose old.disk.faults new.disk.faults) → IsHostFault fault ⊎ (new.disk.faults ≡ old.disk.faults)
    → IsWriteFault fault ⊎ (new.streams.tell_faults ≡ old.streams.tell_faults) → new.streams.warned ≡ old.streams.warned → DoesRebuild asked old new (rebuild_note fault)
does_refused asked old new fault each dry keeps early prints limit rose stood tell warned = record {
  rebuilt = λ e. absurd (not_done fault e);
  durable = λ e. absurd (not_done fault e);
  each = each;
  dry = dry;
  dry_reads = λ no e. absurd (not_done fault e);
  refused = file_kept fault old new keeps tell;
  stated = λ files main shown read. refused_stated fault _ old new early (limit files main shown read);
  exactly = λ files main shown read. exactly_so _ old new (rebuild_note fault) (refused_stated fault _ old new early (limit files main shown read));
  prints = prints;
  silent = silent_so fault old new early;
  warned = warned;
  faults = host_faults fault old.disk.faults new.disk.faults rose stood;
  notes = rebuild_notes fault;
}

-- ---- once the note was printed to standard error

rebuild_disk : (asked : AskedRebuild) (o p : HostState) (d x e : DiskState) (note : Note) → SameDisk x e → DoesRebuild asked (moment d o) (moment x p) note → DoesRebuild asked (moment d o) (moment e p) note
rebuild_disk asked o p d x e note same does = record {
  rebuilt = λ done files main shown read. let is = does.rebuilt done files main shown read in (
    is.0,
    record {
      text = is.1.text;
      bytes = is.1.bytes;
      report = is.1.report;
      printed = is.1.printed;
      index = is.1.index;
      reads = λ wet. same.reads ∙ is.1.reads wet;
      counts = is.1.counts;
    },
  );
  durable = λ done wet. durable_still x e same (does.durable done wet);
  each = between_still d x e _ same does.each;
  dry = λ is. file_still d x e same (does.dry is);
  dry_reads = λ is done. same.reads ∙ does.dry_reads is done;
  refused = ⊎_elim inl (λ or. inr (⊎_elim (λ keeps. inl (file_still d x e same keeps)) inr or)) does.refused;
  stated = λ files main shown read. ⊎_elim inl (λ met. inr (record { output = met.output; result = met.result; told = met.told })) (does.stated files main shown read);
  exactly = does.exactly;
  prints = does.prints;
  silent = does.silent;
  warned = does.warned;
  faults = subst (λ (n : ℕ). Faults Host note d.faults n) (sym same.faults) does.faults;
  notes = does.notes;
}

pub rebuild_still : (asked : AskedRebuild) (o p q : HostState) (d x e : DiskState) (note : Note) → SameDisk x e → q.told ≡ p.told → q.tell_faults ≡ p.tell_faults → DoesRebuild asked (moment d o) (moment x p) note
    → DoesRebuild asked (moment d o) (but_warned e o q) note
rebuild_still asked o p q d x e note same told faults does =
    let streams : p ≡ record q { warned = o.warned } =
    ap (λ (w : Option (List ℕ)). record p { warned = w }) does.warned
    ∙ ap (λ (t : Option (List ℕ)). record p { warned = o.warned; told = t }) (sym told)
    ∙ ap (λ (n : ℕ). record q { warned = o.warned; tell_faults = n }) (sym faults) in
    rebuild_disk asked o (record q { warned = o.warned }) d x e note same (subst (λ (s : HostState). DoesRebuild asked (moment d o) (moment x s) note) streams does)

-- ---- memory ran out before anything was done

pub nothing_rebuilt : (asked : AskedRebuild) (m : HostMoment) → IsMoment m.disk → DoesRebuild asked m m Memory
nothing_rebuilt asked m is = does_refused asked m m NoMemory
    (record { each = λ c n left. let now = is.now c n left in (omega (arith, now.1), omega (arith, now.1), inl now.0) })
    (λ no. file) (inr file) (λ early. refl) (λ files main shown read. inl refl) (λ files main shown read. tt) (λ no. absurd no) (inr refl) (inr refl) refl
  where
    file : KeepsFile m.disk m.disk
    file = record { each = record { each = λ c n left. let now = is.now c n left in (omega (arith, now.1), omega (arith, now.1), now.0) }; fresh = refl; written = refl; publishes = refl }

-- ---- jobs

-- what follows for each rebuild follows for the job
pub on_folder : (P Q : Options → Type 0) → ((options : Options) → P options → Q options) → (job : Job) → OnFolder P job → OnFolder Q job
on_folder P Q follows (Reconstruct options folder) met = follows options met
on_folder P Q follows job met = tt

pub on_each_folder : (P : Options → Type 0) → ((options : Options) → P options) → (job : Job) → OnFolder P job
on_each_folder P all (Reconstruct options folder) = all options
on_each_folder P all job = tt

-- an action never ends with a fault of the spool
pub spool_still : (note : Note) (n : ℕ) → IsBuilt note → Faults Spool note n n
spool_still note n built = record { rose = λ is. absurd (subst IsBuilt is built); stood = λ other. refl }
