use Rattle.std.proofs.Common.{◌≡◌, ℕ, ◌≤◌, List, length, take, sym, ap, subst, arith}
use Rattle.base_bytes.specs.Landing.{written_at}
use Rattle.base_devices.proofs.Moments.{first_call, next_call}
use Rattle.base_devices.specs.CrashImages.{DiskState}
use Rattle.skip_form.specs.declared.header.Header.{Header}
use Rattle.skip_form.specs.Spelling.{IsHeader, header_bytes}
use Rattle.skip_spec.specs.Chain.{pairs}
use Rattle.skip_spec.specs.Opens as opens
use Rattle.skip_spec.specs.Opens.{Contents, Tidy, Opens, with_dirty}
use Rattle.skip_spec.specs.Recovery.{clean_header, recovered}
use Rattle.skip_lists.specs.Tie.{OnBytes, TiedToBase}
use Rattle.skip_recover.proofs.Finishing.{reads_here, left_map, finished, left_finished}
use Rattle.skip_recover.proofs.Runs.{write_in_place, sync_in_place, in_place_then}
use Rattle.base_bytes.proofs.Landings.{length-written}
use Rattle.skip_recover.proofs.ending.finish.Goals as goal

-- the header that is written
header_is : (base b : List ℕ) (says : Contents) (s : DiskState) → TiedToBase base says b s → (header : List ℕ) (count : ℕ) → ((h : Header) → IsHeader h → take 64 b ≡ header_bytes h → header ≡ header_bytes (clean_header h count)) → header ≡ header_bytes (clean_header (with_dirty says.header) count)
header_is base b says s t header count is = is (with_dirty says.header) (reads_here base b says s t).fields (reads_here base b says s t).header

pub returns-in_err-write_at-clause-moments : goal.returns-in_err-write_at-clause-moments
returns-in_err-write_at-clause-moments g c = λ base says t l ends counted.
    let b = c.args.image.now.bytes in
    let is = header_is base b says _ t c.cleaned-header.result c.args.count c.cleaned-header.ensures.bytes in
    let after = left_finished base b says _ t l ends c.args.count counted c.cleaned-header.result c.cleaned-header.ensures.size is _ c.requires.durable c.write_at.ensures.write.crash in
    first_call _ _ (OnBytes (λ file. Opens file (pairs says.chain))) c.write_at.ensures.call (left_map base b says _ t) after

pub returns-in_err-sync-clause-moments : goal.returns-in_err-sync-clause-moments
returns-in_err-sync-clause-moments g c = λ base says t l ends counted.
    let on = g.met.D.Disk.rest_goes_on in
    let b = c.args.image.now.bytes in
    let is = header_is base b says _ t c.cleaned-header.result c.args.count c.cleaned-header.ensures.bytes in
    let after = left_finished base b says _ t l ends c.args.count counted c.cleaned-header.result c.cleaned-header.ensures.size is _ c.requires.durable c.write_at.ensures.write.crash in
    next_call _ _ _ (OnBytes (λ file. Opens file (pairs says.chain))) (on _ _ c.write_at.ensures.rest).later c.write_at.ensures.call.mark (on _ _ c.sync.ensures.rest) c.sync.ensures.call (first_call _ _ (OnBytes (λ file. Opens file (pairs says.chain))) c.write_at.ensures.call (left_map base b says _ t) after) after (λ i since. after i (c.sync.ensures.sync.crash i since))

pub returns-clause-moments : goal.returns-clause-moments
returns-clause-moments g c = λ base says t l ends counted.
    let on = g.met.D.Disk.rest_goes_on in
    let b = c.args.image.now.bytes in
    let is = header_is base b says _ t c.cleaned-header.result c.args.count c.cleaned-header.ensures.bytes in
    let after = left_finished base b says _ t l ends c.args.count counted c.cleaned-header.result c.cleaned-header.ensures.size is _ c.requires.durable c.write_at.ensures.write.crash in
    next_call _ _ _ (OnBytes (λ file. Opens file (pairs says.chain))) (on _ _ c.write_at.ensures.rest).later c.write_at.ensures.call.mark (on _ _ c.sync.ensures.rest) c.sync.ensures.call (first_call _ _ (OnBytes (λ file. Opens file (pairs says.chain))) c.write_at.ensures.call (left_map base b says _ t) after) after (λ i since. after i (c.sync.ensures.sync.crash i since))

pub returns-clause-done : goal.returns-clause-done
returns-clause-done g c = λ base says t l ends counted.
    let b = c.args.image.now.bytes in
    let is = header_is base b says _ t c.cleaned-header.result c.args.count c.cleaned-header.ensures.bytes in
    subst (λ (x : List ℕ). opens.Reads x (recovered says) × Tidy x (recovered says)) (sym c.patch.ensures.bytes) (finished base b says _ t l ends c.args.count counted c.cleaned-header.result c.cleaned-header.ensures.size is)

same_long : (b c header : List ℕ) → 64 ≤ length b → length header ≡ 64 → c ≡ written_at 0 header b → length c ≡ length b
same_long b c header long size is = omega (arith, ap length is, length-written 0 header b (omega arith), long, size)

pub returns-in_err-write_at-clause-place : goal.returns-in_err-write_at-clause-place
returns-in_err-write_at-clause-place g c =
    let long = same_long c.args.image.now.bytes c.patch.new.self.bytes c.cleaned-header.result c.requires.long c.cleaned-header.ensures.size c.patch.ensures.bytes in
    write_in_place c.args.image.now.bytes c.patch.new.self.bytes 0 c.cleaned-header.result _ _ long (omega (arith, c.requires.long, c.cleaned-header.ensures.size)) c.write_at.ensures.call c.write_at.ensures.write.crash c.write_at.ensures.write.publishes

pub returns-in_err-sync-clause-place : goal.returns-in_err-sync-clause-place
returns-in_err-sync-clause-place g c =
    let on = g.met.D.Disk.rest_goes_on in
    let long = same_long c.args.image.now.bytes c.patch.new.self.bytes c.cleaned-header.result c.requires.long c.cleaned-header.ensures.size c.patch.ensures.bytes in
    let write = write_in_place c.args.image.now.bytes c.patch.new.self.bytes 0 c.cleaned-header.result _ _ long (omega (arith, c.requires.long, c.cleaned-header.ensures.size)) c.write_at.ensures.call c.write_at.ensures.write.crash c.write_at.ensures.write.publishes in
    in_place_then _ _ _ _ _ _ (on _ _ c.write_at.ensures.rest) (on _ _ c.sync.ensures.rest) write (sync_in_place c.patch.new.self.bytes _ _ c.sync.ensures.call c.sync.ensures.sync.crash c.sync.ensures.sync.publishes)

pub returns-clause-place : goal.returns-clause-place
returns-clause-place g c =
    let on = g.met.D.Disk.rest_goes_on in
    let long = same_long c.args.image.now.bytes c.patch.new.self.bytes c.cleaned-header.result c.requires.long c.cleaned-header.ensures.size c.patch.ensures.bytes in
    let write = write_in_place c.args.image.now.bytes c.patch.new.self.bytes 0 c.cleaned-header.result _ _ long (omega (arith, c.requires.long, c.cleaned-header.ensures.size)) c.write_at.ensures.call c.write_at.ensures.write.crash c.write_at.ensures.write.publishes in
    in_place_then _ _ _ _ _ _ (on _ _ c.write_at.ensures.rest) (on _ _ c.sync.ensures.rest) write (sync_in_place c.patch.new.self.bytes _ _ c.sync.ensures.call c.sync.ensures.sync.crash c.sync.ensures.sync.publishes)
