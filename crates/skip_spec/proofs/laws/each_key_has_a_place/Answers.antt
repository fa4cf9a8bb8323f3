use Rattle.skip_spec.proofs.PlaceLemmas.{place_of, live_rises}
use Rattle.skip_spec.proofs.laws.each_key_has_a_place.Goals as goal

pub returns : goal.returns
returns c = record { place = place_of; rise = live_rises }
