use Rattle.std.proofs.Common.{◌∙◌, sym, ap, subst}
use Rattle.flat_db.specs.Sessions.{IsSession, session_of, flat_state}
use Rattle.flat_db.specs.declared.session.Stage.{Stage}
use Rattle.flat_db.proofs.SessionLemmas.{nothing_owed, back_kept, back_state}
use Rattle.flat_db.proofs.session.FlatDb.go_back.Goals as goal

pub invariant_of-self-2 : goal.invariant_of-self-2
invariant_of-self-2 c =
    let bytes = c.self.inside.bytes.items in
    let kept = back_kept bytes bytes c.self.inside.seen c.self.inside.stage c.replace.result c.in-Open.transaction c.args.self.now c.self.view_is c.replace.ensures.value c.in-Open.is c.self.invariant c.truncate.new.self.items c.truncate.ensures.items in
    subst (IsSession c.truncate.new.self.items c.in-Open.transaction.committed) (sym c.replace.ensures.after) (record { kept = kept.0; stands = tt })

pub returns-clause-answer : goal.returns-clause-answer
returns-clause-answer c =
    let bytes = c.self.inside.bytes.items in
    record {
      ok = nothing_owed c.args.self.now (sym c.is_broken.ensures ∙ c.if-is_broken.false);
      done = ap (λ (stage : Stage). flat_state (session_of c.truncate.new.self.items c.in-Open.transaction.committed stage)) c.replace.ensures.after
          ∙ back_state bytes bytes c.self.inside.seen c.self.inside.stage c.replace.result c.in-Open.transaction c.args.self.now c.self.view_is c.replace.ensures.value c.in-Open.is c.self.invariant c.truncate.new.self.items c.truncate.ensures.items;
      refused = tt;
      after = tt;
    }
