-- What filling a new file with the pairs of a database answers, writes and draws.
use Rattle.std.specs.Prelude.{◌≡◌, ◌⊎◌, ℕ, zero, suc, ◌-◌, ◌^◌, ◌≤◌, min, nat_lt, List, [], ◌∷◌, Option, Some, None, Result, OnOk, IfOk, IfErr, length, if◌then◌else◌}
use Rattle.std.specs.Option.{option_or}
use Rattle.base_bytes.specs.OrderedMap.{Map}
use Rattle.base_devices.specs.Causes.{FaultHasCause}
use Rattle.base_devices.specs.CrashImages.{DiskState}
use Rattle.base_devices.specs.Frames.{MayReplace, Replaces}
use Rattle.db_core.specs.Refusals.{IsDiskFault, pair_refusal}
use Rattle.db_core.specs.declared.fault.DbFault.{DbFault}
use Rattle.db_core.specs.declared.fault.DbFault.TheVariants.{Full, NoMemory, DiskFault}
use Rattle.rand_core.specs.Stream.{Stream, next_u32}

-- ---- random words

-- so many words, in the order in which they are drawn
abbrev pub first_words : ℕ → Stream → List ℕ
first_words zero words = []
first_words (suc count) words = (next_u32 words).0 ∷ first_words count (next_u32 words).1

-- the words that are left after so many
abbrev pub left_after : ℕ → Stream → Stream
left_after zero words = words
left_after (suc count) words = left_after count (next_u32 words).1

-- ---- what a kind of file makes of a map

pub record FillKind : Type 0 where
  -- how many bytes a file may have
  pub limit : ℕ
  -- the file of a map, by these random words
  pub file_of : Map → Stream → List ℕ
  -- and how many bytes that is
  pub size_of : Map → Stream → ℕ
  -- how many words are drawn for so many pairs
  pub words_for : ℕ → ℕ

-- ---- what is refused

-- why the first of these pairs that may not be stored may not
abbrev pub pairs_refusal : Map → Option DbFault
pairs_refusal [] = None
pairs_refusal (p ∷ m) = option_or (pair_refusal p.0 p.1) (pairs_refusal m)

-- a number past the counter's end is told as that
abbrev pub told : ℕ → ℕ
told size = min size (2 ^ 64 - 1)

abbrev pub size_refusal : ℕ → ℕ → Option DbFault
size_refusal limit size = if nat_lt limit size then Some (Full (told size)) else None

abbrev pub fill_refusal : FillKind → Map → Stream → Option DbFault
fill_refusal kind m words = option_or (pairs_refusal m) (size_refusal kind.limit (kind.size_of m words))

-- Memory may run out before the size is known, and the disk is called where nothing is refused.
abbrev pub MayRefuse : FillKind → Map → Stream → DbFault → Type 0
MayRefuse kind m words NoMemory = pairs_refusal m ≡ None
MayRefuse kind m words DiskFault = fill_refusal kind m words ≡ None
MayRefuse kind m words fault = fill_refusal kind m words ≡ Some fault

-- ---- what is done

-- a disk with the random words to come
pub record FillMoment : Type 1 where
  pub disk : DiskState
  pub words : Stream

abbrev pub with_words_to_come : DiskState → Stream → FillMoment
with_words_to_come disk words = record { disk = disk; words = words }

-- some words were drawn, no more than these
pub record DrawsUpTo (most : ℕ) (old new : Stream) : Type 0 where
  pub count : ℕ
  pub within : count ≤ most
  pub drawn : new ≡ left_after count old

-- The map's file takes the place of the main file, and the pairs are counted; or nothing does, for a reason.
pub record Fills (kind : FillKind) (m : Map) (old new : FillMoment) (result : Result ℕ DbFault) : Type 0 where
  -- the file
  pub replaces : Replaces (kind.file_of m old.words) old.disk new.disk result
  pub any_moment : MayReplace (kind.file_of m old.words) old.disk new.disk
  -- the answer
  pub count : IfOk result (λ count. count ≡ length m)
  pub allowed : OnOk result (fill_refusal kind m old.words ≡ None)
  pub refused : IfErr result (λ fault. MayRefuse kind m old.words fault)
  pub cause : FaultHasCause IsDiskFault old.disk.faults new.disk.faults result
  -- the words
  pub all_drawn : OnOk result (new.words ≡ left_after (kind.words_for (length m)) old.words)
  pub drawn : DrawsUpTo (kind.words_for (length m)) old.words new.words
