use Rattle.skip_spec.proofs.PlaceLemmas.{place_value, place_from, place_above, pairs_put, pairs_without}
use Rattle.skip_spec.proofs.laws.places_follow_the_map.Goals as goal

pub returns : goal.returns
returns c = record {
  value = place_value;
  from = place_from;
  past = place_above;
  put = λ es key place e ordered is. pairs_put es key place ordered e is;
  delete = pairs_without;
}
