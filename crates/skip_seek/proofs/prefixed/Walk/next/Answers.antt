use Rattle.std.proofs.Common.{◌≡◌, List, ℕ, [], ◌∷◌, refl, sym, ap, subst, ◌∙◌}
use Rattle.base_bytes.specs.OrderedMap.{Map, IsOrderedMap, with_prefix}
use Rattle.skip_seek.specs.Prefixed.{Remains, BeginsFrom}
use Rattle.skip_seek.proofs.Prefixes.{having, none_of, all_lack, begins_later}
use Rattle.skip_seek.proofs.prefixed.Walk.next.Goals as goal

pub returns-in_default-clause-pair : goal.returns-in_default-clause-pair
returns-in_default-clause-pair g c = λ left r.
    let walk = c.args.self.now in
    let empty = c.in_default.ensures.step r.all r.at in
    let ends : left ≡ [] = sym r.left_is ∙ ap (λ (m : Map). with_prefix m walk.prefix.now) empty ∙ none_of walk.prefix.now in
    (ends, subst (λ (m : Map). Remains walk m) ends r)

pub returns-then-not-starts_with-clause-pair : goal.returns-then-not-starts_with-clause-pair
returns-then-not-starts_with-clause-pair g c = λ left r.
    let walk = c.args.self.now in
    let prefix = walk.prefix.now in
    let p : List ℕ × List ℕ = (c.in-Some.passed.pair.key.now, c.in-Some.passed.pair.value.now) in
    let on = c.in-Some.ensures.step r.all r.at in
    let rise : IsOrderedMap (p ∷ on.0) = subst (λ (m : Map). IsOrderedMap m) on.1 r.rise in
    let begins : BeginsFrom prefix (p ∷ on.0) = subst (λ (m : Map). BeginsFrom prefix m) on.1 r.begins in
    let lacks = sym c.starts_with.ensures.value ∙ c.if-not-starts_with.true in
    let ends : left ≡ [] = sym r.left_is ∙ ap (λ (m : Map). with_prefix m prefix) on.1 ∙ all_lack prefix p on.0 rise begins lacks in
    (ends, subst (λ (m : Map). Remains walk m) ends r)

pub returns-clause-pair : goal.returns-clause-pair
returns-clause-pair g c = λ left r.
    let walk = c.args.self.now in
    let prefix = walk.prefix.now in
    let p : List ℕ × List ℕ = (c.in-Some.passed.pair.key.now, c.in-Some.passed.pair.value.now) in
    let on = c.in-Some.ensures.step r.all r.at in
    let rise : IsOrderedMap (p ∷ on.0) = subst (λ (m : Map). IsOrderedMap m) on.1 r.rise in
    let begins : BeginsFrom prefix (p ∷ on.0) = subst (λ (m : Map). BeginsFrom prefix m) on.1 r.begins in
    let has = sym c.starts_with.ensures.value ∙ c.if-not-starts_with.false in (
      with_prefix on.0 prefix,
      sym r.left_is ∙ ap (λ (m : Map). with_prefix m prefix) on.1 ∙ having prefix p on.0 has,
      record {
        live = r.live;
        all = on.0;
        at = on.2;
        rise = rise.1;
        begins = begins_later prefix p on.0 rise begins;
        left_is = refl;
      },
    )
