-- The files of a spool in memory, as its trait sees them.
use Rattle.std.specs.Prelude.{List, map}
use Rattle.base_devices.specs.SpoolCalls.{MessageFile, HasDistinctNames}
use Rattle.mem_spool.specs.declared.mem_spool.MemFile.{MemFile}

abbrev pub file_of : MemFile → MessageFile
file_of file = record { name = file.name; time = file.time; bytes = file.bytes.items }

abbrev pub files_of : List MemFile → List MessageFile
files_of files = map file_of files

-- no two files have one name
abbrev pub AreDistinct : List MemFile → Type 0
AreDistinct files = HasDistinctNames (files_of files)
