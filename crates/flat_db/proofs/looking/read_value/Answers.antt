use Rattle.std.proofs.Common.{List, ℕ, sym, ◌∙◌, subst, arith}
use Rattle.flat_db.specs.FlatText.{FlatTextOf}
use Rattle.flat_db.proofs.Canonical.{text_is_ordered}
use Rattle.flat_db.proofs.looking.read_value.Goals as goal

pub returns-in-Ok-value_in-clause-value : goal.returns-in-Ok-value_in-clause-value
returns-in-Ok-value_in-clause-value g c =
    let read = c.in-Ok-value_in.ensures.found in
    record {
      map = read.map;
      sound = text_is_ordered c.in-Ok.text.items read.map read.reads;
      opens = λ main is.
          let whole = c.requires.size (cc is) in
          record {
            bytes = whole.0;
            there = cc (sym is ∙ whole.1);
            within = omega (arith, whole.2, c.requires.within);
            so = subst (λ (l : List ℕ). FlatTextOf l read.map) (c.in-Ok.ensures.bytes whole.0 whole.1) read.reads;
          };
      found = read.found;
    }
