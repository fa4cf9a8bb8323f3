-- What a real spool shows: how often it failed, and nothing of its folder.
use Rattle.std.specs.Prelude.{◌≡◌, ℕ, None, Some}
use Rattle.base_devices.specs.SpoolCalls.{Folder, SpoolState, HasDistinctNames}

abbrev pub untold_folder : ℕ → SpoolState
untold_folder faults = record { folder = None; faults = faults }

pub untold_distinct : (faults : ℕ) (folder : Folder) → (untold_folder faults).folder ≡ Some folder → HasDistinctNames folder.files
untold_distinct faults folder same = absurd (cc)
