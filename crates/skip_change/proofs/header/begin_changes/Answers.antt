use Rattle.std.proofs.Common.{◌≡◌, ℕ, List, length, take, sym, ap, subst, ◌∙◌}
use Rattle.base_bytes.specs.Landing.{written_at}
use Rattle.skip_form.specs.declared.header.Header.{Header}
use Rattle.skip_form.specs.Spelling.{IsHeader, header_bytes}
use Rattle.skip_spec.specs.Live.{Live}
use Rattle.skip_spec.specs.Opens.{with_dirty}
use Rattle.skip_change.proofs.Headers.{length-headed, live_headed, have_headers, begun_opens, begun_tied}
use Rattle.skip_change.proofs.header.begin_changes.Goals as goal

-- the header with DIRTY
dirty_is : (b : List ℕ) (g h : Header) → ((h : Header) → IsHeader h → take 64 b ≡ header_bytes h → g ≡ h) → IsHeader h → take 64 b ≡ header_bytes h → header_bytes (with_dirty g) ≡ header_bytes (with_dirty h)
dirty_is b g h only is e = ap (λ (x : Header). header_bytes (with_dirty x)) (only h is e)

pub put_header-requires-clause-version : goal.put_header-requires-clause-version
put_header-requires-clause-version g c =
    let h = c.requires.header in
    ap (λ (x : Header). x.version) (c.header-header.ensures.only h.0 h.1 h.2) ∙ h.1.version

pub returns-clause-dirty : goal.returns-clause-dirty
returns-clause-dirty g c = λ h is e.
    c.put_header.ensures.bytes ∙ ap (λ (x : List ℕ). written_at 0 x c.args.image.now.bytes) (dirty_is c.args.image.now.bytes c.header-header.result h c.header-header.ensures.only is e)

pub returns-in_err-put_header-clause-dirty : goal.returns-in_err-put_header-clause-dirty
returns-in_err-put_header-clause-dirty g c = λ h is e.
    c.put_header.ensures.bytes ∙ ap (λ (x : List ℕ). written_at 0 x c.args.image.now.bytes) (dirty_is c.args.image.now.bytes c.header-header.result h c.header-header.ensures.only is e)

pub returns-clause-live : goal.returns-clause-live
returns-clause-live g c = λ starts es live.
    subst (λ (x : List ℕ). Live x starts es) (sym c.put_header.ensures.bytes) (live_headed c.args.image.now.bytes (with_dirty c.header-header.result) c.requires.there starts es live)

pub returns-in_err-put_header-clause-live : goal.returns-in_err-put_header-clause-live
returns-in_err-put_header-clause-live g c = λ starts es live.
    subst (λ (x : List ℕ). Live x starts es) (sym c.put_header.ensures.bytes) (live_headed c.args.image.now.bytes (with_dirty c.header-header.result) c.requires.there starts es live)

pub returns-clause-length : goal.returns-clause-length
returns-clause-length g c = ap length c.put_header.ensures.bytes ∙ length-headed c.args.image.now.bytes (with_dirty c.header-header.result) c.requires.there

pub returns-in_err-put_header-clause-length : goal.returns-in_err-put_header-clause-length
returns-in_err-put_header-clause-length g c = ap length c.put_header.ensures.bytes ∙ length-headed c.args.image.now.bytes (with_dirty c.header-header.result) c.requires.there

pub returns-clause-tied : goal.returns-clause-tied
returns-clause-tied g c = λ base says t.
    let is = dirty_is c.args.image.now.bytes c.header-header.result says.header c.header-header.ensures.only t.committed.fields (ap (take 64) t.own ∙ t.committed.header) in
    begun_tied base c.args.image.now.bytes says (g.D.Disk.state c.args.disk.now) t (header_bytes (with_dirty c.header-header.result)) c.put_header.new.image.bytes (g.D.Disk.state c.put_header.new.disk) is c.put_header.ensures.bytes c.in_ok-put_header.ensures.durable c.in_ok-put_header.ensures.reads

pub returns-clause-moments : goal.returns-clause-moments
returns-clause-moments g c = λ base says t.
    let is = dirty_is c.args.image.now.bytes c.header-header.result says.header c.header-header.ensures.only t.committed.fields (ap (take 64) t.own ∙ t.committed.header) in
    let leaves = c.put_header.ensures.moments (have_headers base c.args.image.now.bytes says (g.D.Disk.state c.args.disk.now) t) in
    record { each = λ i n left. let x = leaves.each i n left in (x.0, begun_opens base c.args.image.now.bytes says (g.D.Disk.state c.args.disk.now) t (header_bytes (with_dirty c.header-header.result)) is i x.1) }

pub returns-in_err-put_header-clause-moments : goal.returns-in_err-put_header-clause-moments
returns-in_err-put_header-clause-moments g c = λ base says t.
    let is = dirty_is c.args.image.now.bytes c.header-header.result says.header c.header-header.ensures.only t.committed.fields (ap (take 64) t.own ∙ t.committed.header) in
    let leaves = c.put_header.ensures.moments (have_headers base c.args.image.now.bytes says (g.D.Disk.state c.args.disk.now) t) in
    record { each = λ i n left. let x = leaves.each i n left in (x.0, begun_opens base c.args.image.now.bytes says (g.D.Disk.state c.args.disk.now) t (header_bytes (with_dirty c.header-header.result)) is i x.1) }
