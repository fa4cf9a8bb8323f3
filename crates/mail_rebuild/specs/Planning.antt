-- What is known once all was read and nothing was printed.
use Rattle.std.specs.Prelude.{◌≡◌, ℕ, ◌++◌, List}
use Rattle.std.specs.List.{filter_map}
use Rattle.base_devices.specs.CrashImages.{Image}
use Rattle.base_devices.specs.SpoolCalls.{HasDistinctNames, MessageFile, names_of}
use Rattle.base_notes.specs.declared.action.Options.{Options}
use Rattle.index_form.specs.Spelling.{header_bytes}
use Rattle.mail_scan.specs.Listing.{IsInOrder, Names, SortsOut}
use Rattle.mail_rebuild.specs.declared.fault.RebuildFault.{RebuildFault}
use Rattle.mail_rebuild.specs.declared.fault.RebuildFault.TheVariants.{ModseqFull, NoMemory, SpoolFault, TooMany, WriteFault}
use Rattle.mail_rebuild.specs.declared.planning.Plan.{Plan}
use Rattle.mail_rebuild.specs.declared.taking.Made.{Made}
use Rattle.mail_rebuild.specs.Findings.{Finding, Rises, messages_in, records_in, uid_from}
use Rattle.mail_rebuild.specs.NewIndex.{HoldsFindings}
use Rattle.mail_rebuild.specs.Rebuilds.{AreContents, Contents, Counts, IsModseqFull, Task}
use Rattle.mail_rebuild.specs.Rebuilt.{old_header, rebuilt, usable_in, whole_index}
use Rattle.mail_rebuild.specs.Report.{report}
use Rattle.mail_rebuild.specs.Taking.{IsNumbered, odd_of}

-- the names of these files, sorted out and in order
pub record IsListed (files : List MessageFile) (names : Names) : Type 0 where
  pub distinct : HasDistinctNames files
  pub sorts : SortsOut (names_of files) names
  pub order : IsInOrder names

-- a folder could not be listed
abbrev pub IsListRefusal : RebuildFault → Type 0
IsListRefusal SpoolFault = Unit {0}
IsListRefusal TooMany = Unit {0}
IsListRefusal NoMemory = Unit {0}
IsListRefusal other = ⊥

-- what was made is made of these findings, which are all usable records of an index and the messages beside them
pub record IsMadeOf (old : Image) (now : ℕ) (found : List Finding) (made : Made) : Type 0 where
  pub rises : Rises 0 found
  pub usable : records_in found ≡ usable_in old
  pub holds : HoldsFindings found made.index
  pub numbers : IsNumbered (old_header (whole_index old)) now made.index

abbrev pub contents_of : List Finding → Made → Contents
contents_of found made = record { messages = messages_in found; odd = odd_of made; uids = filter_map uid_from found }

-- what is printed and written is the report and the index over these contents
pub record PlansFor (options : Options) (old : Image) (now : ℕ) (contents : Contents) (plan : Plan) : Type 0 where
  pub text : plan.text.items ≡ report options old contents.messages contents.uids contents.odd
  pub bytes : header_bytes plan.header ++ plan.records.items ≡ rebuilt old contents.messages now
  pub tally : Counts old contents.messages plan.tally
  pub number : IsModseqFull old contents.messages → ⊥

-- a number is due after the last one, or memory ran out
abbrev pub IsPlanRefusal : Image → List MessageFile → RebuildFault → Type 0
IsPlanRefusal old messages ModseqFull = IsModseqFull old messages
IsPlanRefusal old messages NoMemory = Unit {0}
IsPlanRefusal old messages other = ⊥

abbrev pub IsLate : RebuildFault → Type 0
IsLate ModseqFull = Unit {0}
IsLate NoMemory = Unit {0}
IsLate other = ⊥

-- any refusal but of output
abbrev pub IsNoWriteFault : RebuildFault → Type 0
IsNoWriteFault WriteFault = ⊥
IsNoWriteFault other = Unit {0}

-- the plan for a task
abbrev pub IsPlan : Task → Plan → Type 0
IsPlan task plan =
    (contents : Contents) × AreContents task.files task.old contents
    × PlansFor task.options task.old task.now contents plan
