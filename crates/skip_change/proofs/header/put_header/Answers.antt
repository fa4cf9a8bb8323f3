use Rattle.std.proofs.Common.{ℕ, Some, List, length, sym, ap, subst, ◌∙◌, arith, inl}
use Rattle.base_bytes.specs.Landing.{written_at}
use Rattle.base_devices.specs.CrashImages.{Image}
use Rattle.base_devices.proofs.Moments.{first_call, next_call}
use Rattle.skip_form.specs.Spelling.{header_bytes}
use Rattle.skip_lists.proofs.Ties.{reads_written, write_up_to, same_up_to, then_up_to}
use Rattle.skip_change.specs.Headers.{MayHaveHeader}
use Rattle.skip_change.proofs.Headers.{length-header, still_there, header_lands}
use Rattle.skip_change.proofs.header.put_header.Goals as goal

pub sync-requires : goal.sync-requires
sync-requires g c = still_there _ _ 0 c.write_header-bytes.result c.args.image.now.bytes c.requires.reads (g.met.D.Disk.rest_goes_on _ _ c.write_at.ensures.rest) c.in_ok-write_at.ensures.write.reads

pub returns-in_err-write_at-clause-moments : goal.returns-in_err-write_at-clause-moments
returns-in_err-write_at-clause-moments g c = λ have.
    let lands = subst (λ (x : List ℕ). (i : Image) → (g.D.Disk.state c.write_at.new.self).leaves i → MayHaveHeader (g.D.Disk.state c.args.disk.now) x i) c.write_header-bytes.ensures (header_lands (g.D.Disk.state c.args.disk.now) (g.D.Disk.state c.write_at.new.self) c.write_header-bytes.result (ap length c.write_header-bytes.ensures ∙ length-header c.args.header.now) have c.write_at.ensures.write.crash) in
    first_call _ _ (MayHaveHeader (g.D.Disk.state c.args.disk.now) (header_bytes c.args.header.now)) c.write_at.ensures.call (λ i left. inl left) lands

pub returns-in_err-sync-clause-moments : goal.returns-in_err-sync-clause-moments
returns-in_err-sync-clause-moments g c = λ have.
    let on = g.met.D.Disk.rest_goes_on in
    let Q = MayHaveHeader (g.D.Disk.state c.args.disk.now) (header_bytes c.args.header.now) in
    let lands = subst (λ (x : List ℕ). (i : Image) → (g.D.Disk.state c.write_at.new.self).leaves i → MayHaveHeader (g.D.Disk.state c.args.disk.now) x i) c.write_header-bytes.ensures (header_lands (g.D.Disk.state c.args.disk.now) (g.D.Disk.state c.write_at.new.self) c.write_header-bytes.result (ap length c.write_header-bytes.ensures ∙ length-header c.args.header.now) have c.write_at.ensures.write.crash) in
    next_call _ _ _ Q (on _ _ c.write_at.ensures.rest).later c.write_at.ensures.call.mark (on _ _ c.sync.ensures.rest) c.sync.ensures.call
    (first_call _ _ Q c.write_at.ensures.call (λ i left. inl left) lands) lands (λ i left. lands i (c.sync.ensures.sync.crash i left))

pub returns-clause-moments : goal.returns-clause-moments
returns-clause-moments g c = λ have.
    let on = g.met.D.Disk.rest_goes_on in
    let Q = MayHaveHeader (g.D.Disk.state c.args.disk.now) (header_bytes c.args.header.now) in
    let lands = subst (λ (x : List ℕ). (i : Image) → (g.D.Disk.state c.write_at.new.self).leaves i → MayHaveHeader (g.D.Disk.state c.args.disk.now) x i) c.write_header-bytes.ensures (header_lands (g.D.Disk.state c.args.disk.now) (g.D.Disk.state c.write_at.new.self) c.write_header-bytes.result (ap length c.write_header-bytes.ensures ∙ length-header c.args.header.now) have c.write_at.ensures.write.crash) in
    next_call _ _ _ Q (on _ _ c.write_at.ensures.rest).later c.write_at.ensures.call.mark (on _ _ c.sync.ensures.rest) c.sync.ensures.call
    (first_call _ _ Q c.write_at.ensures.call (λ i left. inl left) lands) lands (λ i left. lands i (c.sync.ensures.sync.crash i left))

pub returns-in_err-write_at-clause-long : goal.returns-in_err-write_at-clause-long
returns-in_err-write_at-clause-long g c = λ most le.
    let size = ap length c.write_header-bytes.ensures ∙ length-header c.args.header.now in
    write_up_to most _ _ 0 c.write_header-bytes.result (omega (arith, le, c.requires.there, size)) c.write_at.ensures.call c.write_at.ensures.write.crash

pub returns-in_err-sync-clause-long : goal.returns-in_err-sync-clause-long
returns-in_err-sync-clause-long g c = λ most le.
    let on = g.met.D.Disk.rest_goes_on in
    let size = ap length c.write_header-bytes.ensures ∙ length-header c.args.header.now in
    then_up_to most _ _ _ (on _ _ c.write_at.ensures.rest) (on _ _ c.sync.ensures.rest) c.write_at.ensures.call.mark
    (write_up_to most _ _ 0 c.write_header-bytes.result (omega (arith, le, c.requires.there, size)) c.write_at.ensures.call c.write_at.ensures.write.crash)
    (same_up_to most _ _ c.sync.ensures.call c.sync.ensures.sync.crash)

pub returns-clause-long : goal.returns-clause-long
returns-clause-long g c = λ most le.
    let on = g.met.D.Disk.rest_goes_on in
    let size = ap length c.write_header-bytes.ensures ∙ length-header c.args.header.now in
    then_up_to most _ _ _ (on _ _ c.write_at.ensures.rest) (on _ _ c.sync.ensures.rest) c.write_at.ensures.call.mark
    (write_up_to most _ _ 0 c.write_header-bytes.result (omega (arith, le, c.requires.there, size)) c.write_at.ensures.call c.write_at.ensures.write.crash)
    (same_up_to most _ _ c.sync.ensures.call c.sync.ensures.sync.crash)

pub returns-in_err-write_at-clause-bytes : goal.returns-in_err-write_at-clause-bytes
returns-in_err-write_at-clause-bytes g c = c.patch.ensures.bytes ∙ ap (λ (x : List ℕ). written_at 0 x c.args.image.now.bytes) c.write_header-bytes.ensures

pub returns-in_err-sync-clause-bytes : goal.returns-in_err-sync-clause-bytes
returns-in_err-sync-clause-bytes g c = c.patch.ensures.bytes ∙ ap (λ (x : List ℕ). written_at 0 x c.args.image.now.bytes) c.write_header-bytes.ensures

pub returns-clause-bytes : goal.returns-clause-bytes
returns-clause-bytes g c = c.patch.ensures.bytes ∙ ap (λ (x : List ℕ). written_at 0 x c.args.image.now.bytes) c.write_header-bytes.ensures

pub returns-clause-reads : goal.returns-clause-reads
returns-clause-reads g c = λ told.
    let on = g.met.D.Disk.rest_goes_on in
    c.in_ok-sync.ensures.sync.reads
    ∙ reads_written _ _ 0 c.write_header-bytes.result c.args.image.now.bytes (c.requires.reads ((on _ _ c.write_at.ensures.rest).telling.0 ((on _ _ c.sync.ensures.rest).telling.0 told))) c.in_ok-write_at.ensures.write.reads
    ∙ ap (λ (x : List ℕ). Some (Some x)) (sym c.patch.ensures.bytes)
