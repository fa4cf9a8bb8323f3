use Rattle.mail_rebuild.proofs.ContentsLemmas.{contents_once}
use Rattle.mail_rebuild.proofs.laws.contents_are_one.Goals as goal

pub returns : goal.returns
returns c = contents_once
