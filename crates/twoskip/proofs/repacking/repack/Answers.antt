use Rattle.std.proofs.Common.{◌≡◌, Ok, Err, false, sym, subst, ◌∙◌}
use Rattle.db_core.specs.Sessions.{over}
use Rattle.db_core.specs.declared.fault.DbFault.TheVariants.{DiskFault}
use Rattle.db_repack.specs.Repacking.{Repacks}
use Rattle.skip_txn.specs.Sessions.{SkipSession, Tied, bytes_of, session_state}
use Rattle.twoskip.specs.Repacking.{repacked_file, skip_repack}
use Rattle.twoskip.proofs.RepackingLemmas.{done, failed, refused, tied_done}
use Rattle.twoskip.proofs.repacking.repack.Goals as goal

pub returns-in-Err-clause-repacks : goal.returns-in-Err-clause-repacks
returns-in-Err-clause-repacks g c =
    let d = g.D.Disk.state c.args.disk.now in
    let s = c.db.inside.session in
    let sound : (session_state s).is_broken ≡ false = sym c.broken.ensures ∙ c.if-broken.false in
    let closed = subst (λ (t : SkipSession). (session_state t).is_broken ≡ false → (session_state t).in_transaction ≡ false) (sym c.db.view_is) c.requires.closed sound in
    let tie = subst (λ (t : SkipSession). Tied t d) (sym c.db.view_is) c.requires.tied in
    subst (λ (t : SkipSession). Repacks {T = Unit {0}} skip_repack (repacked_file (bytes_of t)) (over d (session_state t)) (over d (session_state t)) (Err c.in-Err.fault)) c.db.view_is
    (refused s d sound closed tie (repacked_file (bytes_of s)) c.in-Err.ensures.repacked c.in-Err.fault (g.met.D.Disk.is_moment _) c.in-Err.ensures.refused.1 c.in-Err.ensures.refused.0)

pub returns-in-Ok-replace_by-clause-repacks : goal.returns-in-Ok-replace_by-clause-repacks
returns-in-Ok-replace_by-clause-repacks g c =
    let d = g.D.Disk.state c.args.disk.now in
    let e = g.D.Disk.state c.replace_by.new.to in
    let s = c.db.inside.session in
    let sound : (session_state s).is_broken ≡ false = sym c.broken.ensures ∙ c.if-broken.false in
    let closed = subst (λ (t : SkipSession). (session_state t).is_broken ≡ false → (session_state t).in_transaction ≡ false) (sym c.db.view_is) c.requires.closed sound in
    let tie = subst (λ (t : SkipSession). Tied t d) (sym c.db.view_is) c.requires.tied in
    subst (λ (t : SkipSession). Repacks {T = Unit {0}} skip_repack (repacked_file (bytes_of t)) (over d (session_state t)) (over e (session_state c.new.result)) (Ok tt)) c.db.view_is
    (done s d sound closed tie (repacked_file (bytes_of s)) c.in-Ok.ensures.repacked c.in-Ok.image.bytes c.in-Ok.ensures.bytes c.in-Ok.ensures.tidy e c.in-Ok-replace_by.ensures.any_moment c.in-Ok.ensures.allowed
    c.in-Ok-replace_by.field-0 tt c.new.result c.in-Ok-replace_by.ensures.replaces c.in-Ok-replace_by.ensures.cause c.new.ensures)

pub returns-in-Ok-replace_by-clause-tied : goal.returns-in-Ok-replace_by-clause-tied
returns-in-Ok-replace_by-clause-tied g c =
    let d = g.D.Disk.state c.args.disk.now in
    let s = c.db.inside.session in
    let sound : (session_state s).is_broken ≡ false = sym c.broken.ensures ∙ c.if-broken.false in
    let closed = subst (λ (t : SkipSession). (session_state t).is_broken ≡ false → (session_state t).in_transaction ≡ false) (sym c.db.view_is) c.requires.closed sound in
    let tie = subst (λ (t : SkipSession). Tied t d) (sym c.db.view_is) c.requires.tied in
    tied_done s d sound closed tie (repacked_file (bytes_of s)) c.in-Ok.ensures.repacked c.in-Ok.image.bytes c.in-Ok.ensures.bytes c.in-Ok.ensures.tidy (g.D.Disk.state c.replace_by.new.to) c.in-Ok-replace_by.ensures.any_moment c.in-Ok.ensures.allowed
    c.in-Ok-replace_by.field-0 c.new.result (g.met.D.Disk.rest_goes_on _ _ c.in-Ok-replace_by.ensures.rest) (g.met.D.Disk.is_moment _) c.in-Ok-replace_by.ensures.replaces c.new.ensures

pub returns-in-Err-replace_by-clause-repacks : goal.returns-in-Err-replace_by-clause-repacks
returns-in-Err-replace_by-clause-repacks g c =
    let d = g.D.Disk.state c.args.disk.now in
    let e = g.D.Disk.state c.replace_by.new.to in
    let s = c.db.inside.session in
    let sound : (session_state s).is_broken ≡ false = sym c.broken.ensures ∙ c.if-broken.false in
    let closed = subst (λ (t : SkipSession). (session_state t).is_broken ≡ false → (session_state t).in_transaction ≡ false) (sym c.db.view_is) c.requires.closed sound in
    let tie = subst (λ (t : SkipSession). Tied t d) (sym c.db.view_is) c.requires.tied in
    subst (λ (t : SkipSession). Repacks {T = Unit {0}} skip_repack (repacked_file (bytes_of t)) (over d (session_state t)) (over e (session_state c.give_up.new.self)) (Err DiskFault)) c.db.view_is
    (failed s d sound closed tie (repacked_file (bytes_of s)) c.in-Ok.ensures.repacked c.in-Ok.image.bytes c.in-Ok.ensures.bytes c.in-Ok.ensures.tidy e c.in-Err-replace_by.ensures.any_moment c.in-Ok.ensures.allowed
    c.in-Err-replace_by.field-0 c.give_up.new.self c.in-Err-replace_by.ensures.cause c.give_up.ensures)
