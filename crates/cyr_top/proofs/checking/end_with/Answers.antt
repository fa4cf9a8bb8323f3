use Rattle.cyr_top.proofs.CheckLemmas.{looks_printed, looks_failed}
use Rattle.cyr_top.proofs.checking.end_with.Goals as goal

pub returns-in-Ok-clause-looks : goal.returns-in-Ok-clause-looks
returns-in-Ok-clause-looks g c = looks_printed c.args.note c.as_bytes.result.now c.args.line.now _ _ _ _ c.as_bytes.ensures.value c.requires.fault c.requires.memory c.in-Ok.ensures.told c.in-Ok.ensures.warned c.in-Ok.ensures.mark c.in-Ok.ensures.disk c.in-Ok.ensures.cause

pub returns-in-Err-clause-looks : goal.returns-in-Err-clause-looks
returns-in-Err-clause-looks g c = looks_failed c.args.note c.as_bytes.result.now c.args.line.now _ _ _ _ c.as_bytes.ensures.value c.in-Err.ensures.prefix c.in-Err.ensures.warned c.in-Err.ensures.mark c.in-Err.ensures.disk c.in-Err.ensures.cause
