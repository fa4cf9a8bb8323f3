use Rattle.std.proofs.Common.{◌≡◌, ◌≤◌, ◌<◌, ◌^◌, ℕ, List, ◌++◌, length, refl, sym, ap, subst, ◌∙◌, ◌⊎◌, inl, inr, arith}
use Rattle.base_bytes.specs.Landing.{written_at}
use Rattle.base_devices.specs.CrashImages.{Reads}
use Rattle.skip_form.specs.declared.header.Header.{Header}
use Rattle.skip_form.specs.Spelling.{header_bytes, record_bytes}
use Rattle.skip_spec.specs.Appending.{commit_record, committed_header, Commits}
use Rattle.skip_spec.specs.Chain.{pairs}
use Rattle.skip_spec.specs.Live.{map_under}
use Rattle.skip_spec.specs.Opens.{Opens}
use Rattle.skip_spec.proofs.Lives.{bytes_live}
use Rattle.skip_lists.proofs.Ties.{then_each, then_up_to}
use Rattle.skip_spec.proofs.Meanings.{opens_alike}
use Rattle.skip_change.specs.Headers.{IsCommittedAs}
use Rattle.skip_change.proofs.Headers.{length-headed}
use Rattle.skip_change.proofs.Ended.{committed_opens, committed_tied, committed_commits, headers_there, old_or_new}
use Rattle.skip_change.proofs.ending.commit.Goals as goal

pub put_header-requires-clause-version : goal.put_header-requires-clause-version
put_header-requires-clause-version g c =
    let h = c.requires.header in
    ap (λ (x : Header). x.version) (c.header-header.ensures.only h.0 h.1 h.2) ∙ h.1.version

pub put_header-requires-clause-there : goal.put_header-requires-clause-there
put_header-requires-clause-there g c =
    let least = c.requires.live.2.listed.log.least in
    omega (arith, least, c.end_log.ensures.length)

pub returns-clause-commits : goal.returns-clause-commits
returns-clause-commits g c =
    let b = c.args.image.now.bytes in
    let mid = c.end_log.new.image.bytes in
    let h = c.requires.header in
    let l = c.requires.live in
    let same : c.header-header.result ≡ h.0 = c.header-header.ensures.only h.0 h.1 h.2 in
    let made : mid ≡ b ++ record_bytes (commit_record h.0.current_size) = c.end_log.ensures.bytes ∙ ap (λ (x : Header). b ++ record_bytes (commit_record x.current_size)) same in
    let counted : c.args.count ≡ length l.1 = c.requires.counted ∙ ap length (bytes_live b l.0 l.1 l.2) in
    let fits : c.args.count < 2 ^ 64 = omega (arith, c.ranges.count.fits) in
    let ends : length mid < 2 ^ 64 = omega (arith, c.end_log.ensures.length, c.requires.limit) in
    let live = c.end_log.ensures.live l.0 l.1 l.2 in
    let is_new : c.put_header.new.image.bytes ≡ written_at 0 (header_bytes (committed_header h.0 (length mid) c.args.count)) mid =
    c.put_header.ensures.bytes ∙ ap (λ (x : Header). written_at 0 (header_bytes (committed_header x c.length.result c.args.count)) mid) same ∙ ap (λ (n : ℕ). written_at 0 (header_bytes (committed_header h.0 n c.args.count)) mid) c.length.ensures.size in
    subst (λ (x : List ℕ). Commits b x) (sym is_new) (committed_commits b mid h.0 h.1 h.2 l.0 l.1 l.2 c.args.count counted fits ends made live c.end_log.ensures.length)

pub returns-clause-tied : goal.returns-clause-tied
returns-clause-tied g c = λ base says t.
    let b = c.args.image.now.bytes in
    let mid = c.end_log.new.image.bytes in
    let h = c.requires.header in
    let l = c.requires.live in
    let same : c.header-header.result ≡ h.0 = c.header-header.ensures.only h.0 h.1 h.2 in
    let made : mid ≡ b ++ record_bytes (commit_record h.0.current_size) = c.end_log.ensures.bytes ∙ ap (λ (x : Header). b ++ record_bytes (commit_record x.current_size)) same in
    let counted : c.args.count ≡ length l.1 = c.requires.counted ∙ ap length (bytes_live b l.0 l.1 l.2) in
    let fits : c.args.count < 2 ^ 64 = omega (arith, c.ranges.count.fits) in
    let ends : length mid < 2 ^ 64 = omega (arith, c.end_log.ensures.length, c.requires.limit) in
    let live = c.end_log.ensures.live l.0 l.1 l.2 in
    let is_new : c.put_header.new.image.bytes ≡ written_at 0 (header_bytes (committed_header h.0 (length mid) c.args.count)) mid =
    c.put_header.ensures.bytes ∙ ap (λ (x : Header). written_at 0 (header_bytes (committed_header x c.length.result c.args.count)) mid) same ∙ ap (λ (n : ℕ). written_at 0 (header_bytes (committed_header h.0 n c.args.count)) mid) c.length.ensures.size in
    subst (λ (x : List ℕ). IsCommittedAs b x (g.D.Disk.state c.put_header.new.disk)) (sym is_new)
    (committed_tied b mid h.0 h.1 h.2 l.0 l.1 l.2 c.args.count counted fits ends made live c.end_log.ensures.length (g.D.Disk.state c.put_header.new.disk) c.in_ok-put_header.ensures.durable (λ shown. subst (λ (x : List ℕ). Reads (g.D.Disk.state c.put_header.new.disk) x) is_new (c.in_ok-put_header.ensures.reads shown)))

pub returns-in_err-end_log-clause-moments : goal.returns-in_err-end_log-clause-moments
returns-in_err-end_log-clause-moments g c = λ base says t.
    let m = c.end_log.ensures.moments base says t in
    record { each = λ i n left. let x = m.each i n left in (x.0, (x.1.0, x.1.1, inl x.1.2)) }

pub returns-in_err-put_header-clause-moments : goal.returns-in_err-put_header-clause-moments
returns-in_err-put_header-clause-moments g c = λ base says t.
    let on = g.met.D.Disk.rest_goes_on in
    let b = c.args.image.now.bytes in
    let mid = c.end_log.new.image.bytes in
    let h = c.requires.header in
    let l = c.requires.live in
    let same : c.header-header.result ≡ h.0 = c.header-header.ensures.only h.0 h.1 h.2 in
    let made : mid ≡ b ++ record_bytes (commit_record h.0.current_size) = c.end_log.ensures.bytes ∙ ap (λ (x : Header). b ++ record_bytes (commit_record x.current_size)) same in
    let counted : c.args.count ≡ length l.1 = c.requires.counted ∙ ap length (bytes_live b l.0 l.1 l.2) in
    let fits : c.args.count < 2 ^ 64 = omega (arith, c.ranges.count.fits) in
    let ends : length mid < 2 ^ 64 = omega (arith, c.end_log.ensures.length, c.requires.limit) in
    let live = c.end_log.ensures.live l.0 l.1 l.2 in
    let is_new : c.put_header.new.image.bytes ≡ written_at 0 (header_bytes (committed_header h.0 (length mid) c.args.count)) mid =
    c.put_header.ensures.bytes ∙ ap (λ (x : Header). written_at 0 (header_bytes (committed_header x c.length.result c.args.count)) mid) same ∙ ap (λ (n : ℕ). written_at 0 (header_bytes (committed_header h.0 n c.args.count)) mid) c.length.ensures.size in
    let d = g.D.Disk.state c.end_log.new.disk in
    let P = λ (file : List ℕ). Opens file (pairs says.chain) ⊎ Opens file (map_under b (length b)) in
    let header = header_bytes (committed_header c.header-header.result c.length.result c.args.count) in
    let same_new : c.put_header.new.image.bytes ≡ written_at 0 header mid = c.put_header.ensures.bytes in
    let first = c.end_log.ensures.moments base says t in
    let mid_tied = c.in_ok-end_log.ensures.tied base says t in
    let old : P mid = inl (opens_alike base mid (pairs says.chain) (record { says = says; reads = t.committed; map = refl; sound = inr t.tidy }) mid_tied.own.0) in
    let new : P (written_at 0 header mid) = inr (subst (λ (x : List ℕ). Opens x (map_under b (length b))) (sym is_new ∙ same_new) (committed_opens b mid h.0 h.1 h.2 l.0 l.1 l.2 c.args.count counted fits ends made live c.end_log.ensures.length)) in
    let least = l.2.listed.log.least in
    let long : 64 ≤ length mid = omega (arith, least, c.end_log.ensures.length) in
    let second = c.put_header.ensures.moments (headers_there mid header d c.in_ok-end_log.ensures.durable c.in_ok-end_log.ensures.reads long) in
    then_each P _ _ _ (on _ _ c.end_log.ensures.rest) (on _ _ c.put_header.ensures.rest) c.end_log.ensures.mark
    (record { each = λ i n left. let x = first.each i n left in (x.0, (x.1.0, x.1.1, inl x.1.2)) })
    (record { each = λ i n left. let x = second.each i n left in (x.0, old_or_new mid header d c.in_ok-end_log.ensures.durable c.in_ok-end_log.ensures.reads P old new i x.1) })

pub returns-clause-moments : goal.returns-clause-moments
returns-clause-moments g c = λ base says t.
    let on = g.met.D.Disk.rest_goes_on in
    let b = c.args.image.now.bytes in
    let mid = c.end_log.new.image.bytes in
    let h = c.requires.header in
    let l = c.requires.live in
    let same : c.header-header.result ≡ h.0 = c.header-header.ensures.only h.0 h.1 h.2 in
    let made : mid ≡ b ++ record_bytes (commit_record h.0.current_size) = c.end_log.ensures.bytes ∙ ap (λ (x : Header). b ++ record_bytes (commit_record x.current_size)) same in
    let counted : c.args.count ≡ length l.1 = c.requires.counted ∙ ap length (bytes_live b l.0 l.1 l.2) in
    let fits : c.args.count < 2 ^ 64 = omega (arith, c.ranges.count.fits) in
    let ends : length mid < 2 ^ 64 = omega (arith, c.end_log.ensures.length, c.requires.limit) in
    let live = c.end_log.ensures.live l.0 l.1 l.2 in
    let is_new : c.put_header.new.image.bytes ≡ written_at 0 (header_bytes (committed_header h.0 (length mid) c.args.count)) mid =
    c.put_header.ensures.bytes ∙ ap (λ (x : Header). written_at 0 (header_bytes (committed_header x c.length.result c.args.count)) mid) same ∙ ap (λ (n : ℕ). written_at 0 (header_bytes (committed_header h.0 n c.args.count)) mid) c.length.ensures.size in
    let d = g.D.Disk.state c.end_log.new.disk in
    let P = λ (file : List ℕ). Opens file (pairs says.chain) ⊎ Opens file (map_under b (length b)) in
    let header = header_bytes (committed_header c.header-header.result c.length.result c.args.count) in
    let same_new : c.put_header.new.image.bytes ≡ written_at 0 header mid = c.put_header.ensures.bytes in
    let first = c.end_log.ensures.moments base says t in
    let mid_tied = c.in_ok-end_log.ensures.tied base says t in
    let old : P mid = inl (opens_alike base mid (pairs says.chain) (record { says = says; reads = t.committed; map = refl; sound = inr t.tidy }) mid_tied.own.0) in
    let new : P (written_at 0 header mid) = inr (subst (λ (x : List ℕ). Opens x (map_under b (length b))) (sym is_new ∙ same_new) (committed_opens b mid h.0 h.1 h.2 l.0 l.1 l.2 c.args.count counted fits ends made live c.end_log.ensures.length)) in
    let least = l.2.listed.log.least in
    let long : 64 ≤ length mid = omega (arith, least, c.end_log.ensures.length) in
    let second = c.put_header.ensures.moments (headers_there mid header d c.in_ok-end_log.ensures.durable c.in_ok-end_log.ensures.reads long) in
    then_each P _ _ _ (on _ _ c.end_log.ensures.rest) (on _ _ c.put_header.ensures.rest) c.end_log.ensures.mark
    (record { each = λ i n left. let x = first.each i n left in (x.0, (x.1.0, x.1.1, inl x.1.2)) })
    (record { each = λ i n left. let x = second.each i n left in (x.0, old_or_new mid header d c.in_ok-end_log.ensures.durable c.in_ok-end_log.ensures.reads P old new i x.1) })

pub returns-in_err-end_log-clause-long : goal.returns-in_err-end_log-clause-long
returns-in_err-end_log-clause-long g c = λ most le. c.end_log.ensures.long most (omega (arith, le, c.end_log.ensures.length))

pub returns-in_err-put_header-clause-long : goal.returns-in_err-put_header-clause-long
returns-in_err-put_header-clause-long g c = λ most le.
    let on = g.met.D.Disk.rest_goes_on in
    let mid : length c.end_log.new.image.bytes ≤ most = omega (arith, le, c.end_log.ensures.length) in
    then_up_to most _ _ _ (on _ _ c.end_log.ensures.rest) (on _ _ c.put_header.ensures.rest) c.end_log.ensures.mark (c.end_log.ensures.long most mid) (c.put_header.ensures.long most mid)

pub returns-clause-long : goal.returns-clause-long
returns-clause-long g c = λ most le.
    let on = g.met.D.Disk.rest_goes_on in
    let mid : length c.end_log.new.image.bytes ≤ most = omega (arith, le, c.end_log.ensures.length) in
    then_up_to most _ _ _ (on _ _ c.end_log.ensures.rest) (on _ _ c.put_header.ensures.rest) c.end_log.ensures.mark (c.end_log.ensures.long most mid) (c.put_header.ensures.long most mid)

pub returns-clause-length : goal.returns-clause-length
returns-clause-length g c =
    let least = c.requires.live.2.listed.log.least in
    ap length c.put_header.ensures.bytes ∙ length-headed c.end_log.new.image.bytes _ (omega (arith, least, c.end_log.ensures.length)) ∙ c.end_log.ensures.length
