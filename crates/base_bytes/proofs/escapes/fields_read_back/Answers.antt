use Rattle.base_bytes.proofs.EscapeLaws as laws
use Rattle.base_bytes.proofs.escapes.fields_read_back.Goals as goal

pub returns : goal.returns
returns c = laws.fields_read_back
