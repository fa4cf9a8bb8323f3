-- A spool in memory as its trait sees it, and when its calls fail.
use Rattle.std.specs.Prelude.{◌≡◌, ℕ, ◌+◌, ◌-◌, ◌^◌, min, List, Option, Some, Result, IsErr, Contains, ◌↔◌}
use Rattle.std.proofs.Common.{refl, subst, ◌∙◌}
use Rattle.base_devices.specs.Causes.{HasCause}
use Rattle.base_devices.specs.SpoolCalls.{MessageFile, Folder, SpoolState, HasDistinctNames}
use Rattle.mem_spool.specs.declared.mem_spool.MemSpool.{MemSpool}
use Rattle.mem_spool.specs.MemFiles.{files_of}

-- the files, in the order in which they were added, and the names given so far
abbrev pub mem_folder : MemSpool → Folder
mem_folder s = record { files = files_of s.files.items; given = s.given }

abbrev pub mem_spool_state : MemSpool → SpoolState
mem_spool_state s = record { folder = Some (mem_folder s); faults = s.faults }

-- the numbers of the calls that are to fail, where the first call has number 1
abbrev pub spool_fails : MemSpool → List ℕ
spool_fails s = s.fails.items

-- the number of the next call
abbrev pub next_spool_call : MemSpool → ℕ
next_spool_call s = min (s.calls + 1) (2 ^ 64 - 1)

-- one call: it fails exactly where its number is on the list
pub record CountsSpoolCall {T E : Type 0} (old new : MemSpool) (result : Result T E) : Type 0 where
  pub failed : IsErr result ↔ Contains (spool_fails old) (next_spool_call old)
  pub cause : HasCause old.faults new.faults result
  pub calls : new.calls ≡ next_spool_call old
  pub files : new.files ≡ old.files
  pub fails : new.fails ≡ old.fails

-- no call was made, no name given, and the same calls are to fail
pub record KeepsCalls (old new : MemSpool) : Type 0 where
  pub calls : next_spool_call new ≡ next_spool_call old
  pub given : (mem_folder new).given ≡ (mem_folder old).given
  pub faults : new.faults ≡ old.faults

-- What every step keeps: the files, and the list of calls that are to fail.
pub record SpoolRest (a b : MemSpool) : Type 0 where
  pub files : (mem_folder b).files ≡ (mem_folder a).files
  pub fails : spool_fails b ≡ spool_fails a

-- the laws of each state
pub spool_distinct : (s : MemSpool) (folder : Folder) → (mem_spool_state s).folder ≡ Some folder → HasDistinctNames folder.files
spool_distinct s folder same =
    let e : mem_folder s ≡ folder = cc in
    let P : Folder → Type 0 = λ f. HasDistinctNames f.files in
    subst P e s.distinct

pub spool_rest_same : (s : MemSpool) → SpoolRest s s
spool_rest_same s = record { files = refl; fails = refl }

pub spool_rest_then : (a b c : MemSpool) → SpoolRest a b → SpoolRest b c → SpoolRest a c
spool_rest_then a b c ab bc = record { files = bc.files ∙ ab.files; fails = bc.fails ∙ ab.fails }
