use Rattle.std.proofs.Common.{Some, inl, refl, sym, ◌∙◌, ap, subst}
use Rattle.base_devices.proofs.Moments.{leaves_told}
use Rattle.flat_db.specs.FlatText.{canonical_text}
use Rattle.flat_db.specs.Kept.{map_among}
use Rattle.flat_db.specs.Sessions.{FlatTied, flat_state, session_of}
use Rattle.flat_db.specs.declared.session.Stage.{Stage}
use Rattle.flat_db.proofs.SessionLemmas.{nothing_owed, committed_state, tied_unchanged, tied_replaced, disk_replaced}
use Rattle.flat_db.proofs.session.FlatDbDb.commit.Goals as goal

pub returns-then-not-transaction-clause-tied : goal.returns-then-not-transaction-clause-tied
returns-then-not-transaction-clause-tied g c =
    let bytes = c.self.inside.bytes.items in
    subst (λ (stage : Stage). FlatTied (session_of bytes c.self.inside.seen stage) (g.D.Disk.state c.args.disk.now)) (sym c.replace.ensures.after)
    (tied_unchanged bytes bytes c.self.inside.seen c.self.inside.stage c.replace.result c.in-Open.transaction c.args.self.now c.self.view_is c.replace.ensures.value c.in-Open.is c.self.invariant (g.D.Disk.state c.args.disk.now) c.if-not-transaction.true c.requires.tied)

pub returns-in-Ok-clause-commit : goal.returns-in-Ok-clause-commit
returns-in-Ok-clause-commit g c = record {
  answer = record {
    ok = nothing_owed c.args.self.now (sym c.is_broken.ensures ∙ c.if-is_broken.false);
    done = ap (λ (stage : Stage). flat_state (session_of c.self.inside.bytes.items c.self.inside.seen stage)) c.replace.ensures.after
        ∙ committed_state c.self.inside.bytes.items c.deref.result.now c.self.inside.seen c.self.inside.stage c.replace.result c.in-Open.transaction c.args.self.now c.self.view_is c.replace.ensures.value c.in-Open.is c.self.invariant c.if-not-transaction.false;
    refused = tt;
    after = tt;
  };
  disk = disk_replaced c.self.inside.bytes.items c.deref.result.now c.self.inside.seen c.self.inside.stage c.replace.result c.in-Open.transaction c.args.self.now c.self.view_is c.replace.ensures.value c.in-Open.is c.self.invariant
      (g.D.Disk.state c.args.disk.now) (g.D.Disk.state c.replace-2.new.disk) c.deref.ensures.value c.if-not-transaction.false c.requires.tied c.in-Ok.ensures.any_moment;
  in_place = λ in_place. absurd (cc in_place);
  cause = record { later = c.in-Ok.ensures.cause.later; rose = tt; stood = tt; kept = c.in-Ok.ensures.cause.kept };
}

pub returns-in-Ok-clause-tied : goal.returns-in-Ok-clause-tied
returns-in-Ok-clause-tied g c =
    let bytes = c.self.inside.bytes.items in
    let after = g.D.Disk.state c.replace-2.new.disk in
    let only = leaves_told (g.D.Disk.state c.args.disk.now) after (Some (canonical_text (map_among c.deref.result.now c.self.inside.seen))) (g.met.D.Disk.rest_goes_on _ _ c.in-Ok.ensures.rest) (g.met.D.Disk.is_moment _) c.in-Ok.ensures.replaces.durable c.in-Ok.ensures.replaces.reads in
    subst (λ (stage : Stage). FlatTied (session_of bytes c.self.inside.seen stage) after) (sym c.replace.ensures.after)
    (tied_replaced bytes c.deref.result.now c.self.inside.seen c.self.inside.stage c.replace.result c.in-Open.transaction c.args.self.now c.self.view_is c.replace.ensures.value c.in-Open.is c.self.invariant after c.deref.ensures.value c.if-not-transaction.false only)

pub returns-clause-commit : goal.returns-clause-commit
returns-clause-commit g c = record {
  answer = record { ok = tt; done = tt; refused = nothing_owed c.args.self.now (sym c.is_broken.ensures ∙ c.if-is_broken.false); after = (refl, refl) };
  disk = disk_replaced c.self.inside.bytes.items c.deref.result.now c.self.inside.seen c.self.inside.stage c.replace.result c.in-Open.transaction c.args.self.now c.self.view_is c.replace.ensures.value c.in-Open.is c.self.invariant
      (g.D.Disk.state c.args.disk.now) (g.D.Disk.state c.replace-2.new.disk) c.deref.ensures.value c.if-not-transaction.false c.requires.tied c.replace-2.ensures.any_moment;
  in_place = λ in_place. absurd (cc in_place);
  cause = record { later = c.in-Err.ensures.cause.later; rose = λ fault. c.in-Err.ensures.cause.failed; stood = inl tt; kept = tt };
}
