use Rattle.std.proofs.Common.{ℕ, List, Some, take, sym, ap, ◌∙◌}
use Rattle.base_devices.proofs.Moments.{first_call, next_call}
use Rattle.skip_spec.specs.Chain.{pairs}
use Rattle.skip_spec.specs.Opens.{Opens}
use Rattle.skip_lists.specs.Tie.{OnBytes}
use Rattle.skip_recover.proofs.Finishing.{reads_changed, left_map, left_cut, left_cut_map, cut_tied}
use Rattle.skip_recover.proofs.Runs.{cut_in_place, sync_in_place, in_place_then}
use Rattle.skip_recover.proofs.ending.cut_to_end.Goals as goal

pub returns-in_err-cut-clause-moments : goal.returns-in_err-cut-clause-moments
returns-in_err-cut-clause-moments g c = λ base says t size.
    let after = left_cut_map base c.args.image.now.bytes says _ t c.args.end size _ c.cut.ensures.cut.crash in
    first_call _ _ (OnBytes (λ file. Opens file (pairs says.chain))) c.cut.ensures.call (left_map base c.args.image.now.bytes says _ t) after

pub returns-in_err-sync-clause-moments : goal.returns-in_err-sync-clause-moments
returns-in_err-sync-clause-moments g c = λ base says t size.
    let on = g.met.D.Disk.rest_goes_on in
    let after = left_cut_map base c.args.image.now.bytes says _ t c.args.end size _ c.cut.ensures.cut.crash in
    next_call _ _ _ (OnBytes (λ file. Opens file (pairs says.chain))) (on _ _ c.cut.ensures.rest).later c.cut.ensures.call.mark (on _ _ c.sync.ensures.rest) c.sync.ensures.call (first_call _ _ (OnBytes (λ file. Opens file (pairs says.chain))) c.cut.ensures.call (left_map base c.args.image.now.bytes says _ t) after) after (λ i since. after i (c.sync.ensures.sync.crash i since))

pub returns-clause-moments : goal.returns-clause-moments
returns-clause-moments g c = λ base says t size.
    let on = g.met.D.Disk.rest_goes_on in
    let after = left_cut_map base c.args.image.now.bytes says _ t c.args.end size _ c.cut.ensures.cut.crash in
    next_call _ _ _ (OnBytes (λ file. Opens file (pairs says.chain))) (on _ _ c.cut.ensures.rest).later c.cut.ensures.call.mark (on _ _ c.sync.ensures.rest) c.sync.ensures.call (first_call _ _ (OnBytes (λ file. Opens file (pairs says.chain))) c.cut.ensures.call (left_map base c.args.image.now.bytes says _ t) after) after (λ i since. after i (c.sync.ensures.sync.crash i since))

pub returns-clause-done : goal.returns-clause-done
returns-clause-done g c = λ base says t size.
    let on = g.met.D.Disk.rest_goes_on in
    let b = c.args.image.now.bytes in
    let left = left_cut base b says _ t c.args.end size _ c.cut.ensures.cut.crash in
    cut_tied base b says _ t c.args.end size _ c.shorten.new.self.bytes c.shorten.ensures.bytes (λ i since. left i (c.sync.ensures.sync.crash i since)) (λ shows.
    c.in_ok-sync.ensures.sync.reads ∙ reads_changed _ _ (λ x. take c.args.end x) b (c.requires.reads ((on _ _ c.cut.ensures.rest).telling.0 ((on _ _ c.sync.ensures.rest).telling.0 shows))) c.in_ok-cut.ensures.cut.reads ∙ ap (λ (x : List ℕ). Some (Some x)) (sym c.shorten.ensures.bytes))

pub returns-in_err-sync-clause-place : goal.returns-in_err-sync-clause-place
returns-in_err-sync-clause-place g c =
    let on = g.met.D.Disk.rest_goes_on in
    let cut = cut_in_place c.args.image.now.bytes c.shorten.new.self.bytes c.args.end _ _ c.shorten.ensures.bytes c.cut.ensures.call c.cut.ensures.cut.crash c.cut.ensures.cut.publishes in
    in_place_then _ _ _ _ _ _ (on _ _ c.cut.ensures.rest) (on _ _ c.sync.ensures.rest) cut (sync_in_place c.shorten.new.self.bytes _ _ c.sync.ensures.call c.sync.ensures.sync.crash c.sync.ensures.sync.publishes)

pub returns-clause-place : goal.returns-clause-place
returns-clause-place g c =
    let on = g.met.D.Disk.rest_goes_on in
    let cut = cut_in_place c.args.image.now.bytes c.shorten.new.self.bytes c.args.end _ _ c.shorten.ensures.bytes c.cut.ensures.call c.cut.ensures.cut.crash c.cut.ensures.cut.publishes in
    in_place_then _ _ _ _ _ _ (on _ _ c.cut.ensures.rest) (on _ _ c.sync.ensures.rest) cut (sync_in_place c.shorten.new.self.bytes _ _ c.sync.ensures.call c.sync.ensures.sync.crash c.sync.ensures.sync.publishes)
