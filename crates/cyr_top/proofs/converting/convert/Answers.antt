use Rattle.flat_db.proofs.KindLaws.{flat_laws}
use Rattle.skip_kind.proofs.KindLaws.{skip_laws}
use Rattle.cyr_top.proofs.converting.convert.Goals as goal

pub convert_files-note-requires : goal.convert_files-note-requires
convert_files-note-requires g c = flat_laws

pub convert_files-note-requires-in-Twoskip : goal.convert_files-note-requires-in-Twoskip
convert_files-note-requires-in-Twoskip g c = skip_laws
