use Rattle.std.proofs.Common.{List, ℕ, sym, ap, ◌∙◌}
use Rattle.std.specs.Ordering.{is_eq}
use Rattle.base_bytes.specs.OrderedMap.{key_order}
use Rattle.base_bytes.proofs.OrderedMaps.{same_key, key_itself}
use Rattle.skip_seek.proofs.Walking.{equal_is}
use Rattle.skip_seek.proofs.search.has_key.Goals as goal

pub returns : goal.returns
returns c =
    let test = c.is_eq.ensures ∙ ap is_eq (c.compare_keys.ensures ∙ ap (λ (k : List ℕ). key_order k c.args.key.now) c.key.ensures) in (
      (λ yes. ((λ z. c.if-at-eq0.false z), same_key _ c.args.key.now (equal_is _ (sym test ∙ yes)))),
      (λ there. test ∙ ap is_eq (ap (λ (k : List ℕ). key_order k c.args.key.now) there.1 ∙ key_itself c.args.key.now)),
    )
