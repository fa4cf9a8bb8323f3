use Rattle.std.proofs.Common.{sym, ap, ◌∙◌, refl}
use Rattle.base_devices.specs.HostCalls.{moment}
use Rattle.std.proofs.Common.{subst}
use Rattle.std.specs.Prelude.{IsSome}
use Rattle.mail_rebuild.proofs.RebuildLemmas.{all_moments, bytes_of, carried_out, may_be_new, printed_all, printed_some}
use Rattle.mail_rebuild.proofs.rebuilding.rebuild.Goals as goal

pub returns-in_default-clause-prefix : goal.returns-in_default-clause-prefix
returns-in_default-clause-prefix g c files old shown reads =
    let same = ap (λ s. s.told) (g.met.H.Host.disk_keeps _ _ c.prepare.ensures.disk_rest) in
    let plan = c.in_ok-plan.ensures.planned files old shown reads in
    printed_some _ (moment (g.H.Disk.state c.args.host.now) (g.H.Host.streams c.args.host.now)) (moment (g.H.Disk.state c.tell.new.self) (g.H.Host.streams c.tell.new.self)) c.in_ok-plan.plan _ plan (rw (same, c.deref.ensures.value) at c.in_default.ensures.prefix)

pub returns-then-options-clause-rebuilt : goal.returns-then-options-clause-rebuilt
returns-then-options-clause-rebuilt g c files old shown reads =
    let same = ap (λ s. s.told) (g.met.H.Host.disk_keeps _ _ c.prepare.ensures.disk_rest) in
    let plan = c.in_ok-plan.ensures.planned files old shown reads in
    carried_out _ _ _ c.in_ok-plan.plan plan (rw (same, c.deref.ensures.value) at c.in-Ok.ensures.told) (λ no_. absurd (let yes_ = c.if-options.true in cc))

pub returns-in-Ok-replace-clause-rebuilt : goal.returns-in-Ok-replace-clause-rebuilt
returns-in-Ok-replace-clause-rebuilt g c files old shown reads =
    let same = ap (λ s. s.told) (g.met.H.Host.disk_keeps _ _ c.prepare.ensures.disk_rest) in
    let later = ap (λ s. s.told) (g.met.H.Host.disk_keeps _ _ c.replace.ensures.rest) in
    let plan = c.in_ok-plan.ensures.planned files old shown reads in
    let printed = rw (same, c.deref.ensures.value) at c.in-Ok.ensures.told in
    let shows = subst IsSome (sym (c.tell.ensures.disk.reads ∙ c.in_ok-plan.ensures.same ∙ reads)) refl in
    carried_out _ _ _ c.in_ok-plan.plan plan (later ∙ printed) (λ no_. rw c.deref-2.ensures.value at c.in-Ok-replace.ensures.replaces.reads shows)

pub returns-in-Ok-replace-clause-any_moment : goal.returns-in-Ok-replace-clause-any_moment
returns-in-Ok-replace-clause-any_moment g c =
    all_moments _ _ _ _ _ c.deref.result.now (bytes_of c.in_ok-plan.plan) c.tell.result _
    (g.met.H.Disk.rest_goes_on _ _ c.prepare.ensures.disk_rest)
    (g.met.H.Host.host_goes_on _ _ c.tell.ensures.rest)
    (g.met.H.Host.host_goes_on _ _ (g.met.H.Host.host_then _ _ _ (g.met.H.Host.disk_rests _ _ c.prepare.ensures.disk_rest) c.tell.ensures.rest))
    (g.met.H.Disk.rest_goes_on _ _ c.replace.ensures.rest)
    c.prepare.ensures.leaves c.tell.ensures.mark c.tell.ensures.disk
    (rw c.deref-2.ensures.value at c.replace.ensures.any_moment)
    (λ files old shown reads. may_be_new _ c.in_ok-plan.plan (c.in_ok-plan.ensures.planned files old shown reads))

pub returns-clause-any_moment : goal.returns-clause-any_moment
returns-clause-any_moment g c =
    all_moments _ _ _ _ _ c.deref.result.now (bytes_of c.in_ok-plan.plan) c.tell.result _
    (g.met.H.Disk.rest_goes_on _ _ c.prepare.ensures.disk_rest)
    (g.met.H.Host.host_goes_on _ _ c.tell.ensures.rest)
    (g.met.H.Host.host_goes_on _ _ (g.met.H.Host.host_then _ _ _ (g.met.H.Host.disk_rests _ _ c.prepare.ensures.disk_rest) c.tell.ensures.rest))
    (g.met.H.Disk.rest_goes_on _ _ c.replace.ensures.rest)
    c.prepare.ensures.leaves c.tell.ensures.mark c.tell.ensures.disk
    (rw c.deref-2.ensures.value at c.replace.ensures.any_moment)
    (λ files old shown reads. may_be_new _ c.in_ok-plan.plan (c.in_ok-plan.ensures.planned files old shown reads))

pub returns-clause-prefix : goal.returns-clause-prefix
returns-clause-prefix g c files old shown reads =
    let same = ap (λ s. s.told) (g.met.H.Host.disk_keeps _ _ c.prepare.ensures.disk_rest) in
    let later = ap (λ s. s.told) (g.met.H.Host.disk_keeps _ _ c.replace.ensures.rest) in
    let plan = c.in_ok-plan.ensures.planned files old shown reads in
    printed_all _ (moment (g.H.Disk.state c.args.host.now) (g.H.Host.streams c.args.host.now)) (moment (g.H.Disk.state c.replace.new.disk) (g.H.Host.streams c.replace.new.disk)) c.in_ok-plan.plan plan
    (later ∙ rw (same, c.deref.ensures.value) at c.in-Ok.ensures.told)
