use Rattle.std.proofs.Common.{List, sym, ap, subst, ◌∙◌, arith}
use Rattle.std.specs.List.{AllByRecursion}
use Rattle.skip_spec.specs.Layout.{Item, fresh_size}
use Rattle.skip_layout.specs.declared.item.LayoutItem.{LayoutItem}
use Rattle.skip_layout.specs.Items.{FitsRecord, items_in}
use Rattle.twoskip.proofs.DrawLemmas.{items_fit}
use Rattle.twoskip.proofs.filling.fresh_image.Goals as goal

pub layout_size-size-requires : goal.layout_size-size-requires
layout_size-size-requires g c = subst (λ (l : List Item). AllByRecursion FitsRecord l) (sym (ap items_in c.deref.ensures.value ∙ c.in-Ok.ensures.items)) (items_fit (g.B.Db.state c.args.from.now).seen (g.R.Rng.stream c.args.rng.now) c.requires.fits)

pub lay_out-requires-clause-fits : goal.lay_out-requires-clause-fits
lay_out-requires-clause-fits g c = subst (λ (l : List Item). AllByRecursion FitsRecord l) (sym (ap items_in c.deref-2.ensures.value ∙ c.in-Ok.ensures.items)) (items_fit (g.B.Db.state c.args.from.now).seen (g.R.Rng.stream c.args.rng.now) c.requires.fits)

pub of-requires : goal.of-requires
of-requires g c =
    let same = ap (λ (l : List LayoutItem). fresh_size (items_in l)) (c.deref-2.ensures.value ∙ sym c.deref.ensures.value) in
    record { limit = omega (arith, c.in-Ok-lay_out.ensures.size, same, c.layout_size-size.ensures, c.if-size-gt-SKIP_LIMIT.false) }
