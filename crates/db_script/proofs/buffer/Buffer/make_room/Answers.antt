use Rattle.std.proofs.Common.{◌≡◌, ◌∙◌, ℕ, ◌-◌, List, take, length, ap, subst, arith}
use Rattle.std.proofs.lemmas.List.{with_items_is}
use Rattle.db_script.proofs.HeldLemmas.{copied_front, between}
use Rattle.db_script.proofs.buffer.Buffer.make_room.Goals as goal

pub returns-clause-held : goal.returns-clause-held
returns-clause-held c =
    let old = c.args.self.now in
    ap (between 0 (old.end - old.at)) (with_items_is c.in-Ok.bytes c.put_front.new.into (omega arith))
    ∙ copied_front old.at old.end old.bytes.items c.put_front.new.into old.ordered (omega (arith, old.within, old.bytes.ok.0))
    (subst (λ (l : List ℕ). take (length l) c.put_front.new.into ≡ l) c.held.ensures c.put_front.ensures)
