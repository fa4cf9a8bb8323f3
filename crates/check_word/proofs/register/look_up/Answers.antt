use Rattle.check_word.proofs.TableLemmas.{table_entry}
use Rattle.check_word.proofs.register.look_up.Goals as goal

pub returns : goal.returns
returns c = table_entry c.args.count c.args.byte c.requires c.ranges.byte.fits
