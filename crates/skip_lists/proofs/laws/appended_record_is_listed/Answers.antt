use Rattle.skip_lists.proofs.Stored.{stored, deleted_rest}
use Rattle.skip_lists.proofs.laws.appended_record_is_listed.Goals as goal

pub returns : goal.returns
returns c = record {
  put = λ old new starts es key before same_at next slot live spot small sets some level height pointers value low le past is long. stored old new starts es key before same_at next live spot slot small sets some level height pointers value low le past is long;
  delete = λ old new starts es key before same_at next slot live spot small sets is long. deleted_rest old new starts es key before same_at next live spot slot small sets is long;
}
