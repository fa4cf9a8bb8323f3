use Rattle.std.proofs.Common.{◌≡◌, ℕ, ◌-◌, List, sym, ap, ◌∙◌, Some, arith}
use Rattle.base_bytes.specs.Fields.{part}
use Rattle.base_bytes.specs.Landing.{written_at}
use Rattle.skip_form.specs.Flaws.{head_in}
use Rattle.skip_spec.specs.Records.{head_size_of}
use Rattle.skip_lists.proofs.Ties.{reads_written}
use Rattle.skip_image.proofs.HeadWrites.{head_written, head_moments, head_tied}
use Rattle.skip_image.proofs.image.Image.write_head.Goals as goal

-- the bytes that are written are those of the head up to its check
same_bytes : (b d e : List ℕ) (at n : ℕ) (bytes : List ℕ) → d ≡ b → n ≡ head_size_of (head_in d at) → e ≡ b → bytes ≡ part e at (n - 4) → bytes ≡ part b at (head_size_of (head_in b at) - 4)
same_bytes b d e at n bytes is_d is_n is_e is = is ∙ ap (λ (x : List ℕ). part x at (n - 4)) is_e ∙ ap (λ (m : ℕ). part b at (m - 4)) (is_n ∙ ap (λ (x : List ℕ). head_size_of (head_in x at)) is_d)

pub returns-in_err-write_at-clause-moments : goal.returns-in_err-write_at-clause-moments
returns-in_err-write_at-clause-moments g c = λ base says ahead.
    let b = c.args.self.now.bytes in
    let is = same_bytes b c.bytes.result.now c.bytes-2.result.now c.args.at c.head_size_at-size.result c.part_at.result.now c.bytes.ensures c.head_size_at-size.ensures c.bytes-2.ensures c.part_at.ensures.bytes in
    head_moments base b says c.args.at _ ahead c.requires.there c.part_at.result.now is _ c.write_at.ensures.call c.write_at.ensures.write.crash

pub returns-clause-moments : goal.returns-clause-moments
returns-clause-moments g c = λ base says ahead.
    let b = c.args.self.now.bytes in
    let is = same_bytes b c.bytes.result.now c.bytes-2.result.now c.args.at c.head_size_at-size.result c.part_at.result.now c.bytes.ensures c.head_size_at-size.ensures c.bytes-2.ensures c.part_at.ensures.bytes in
    head_moments base b says c.args.at _ ahead c.requires.there c.part_at.result.now is _ c.write_at.ensures.call c.write_at.ensures.write.crash

pub returns-clause-reads : goal.returns-clause-reads
returns-clause-reads g c = λ shows.
    let b = c.args.self.now.bytes in
    let is = same_bytes b c.bytes.result.now c.bytes-2.result.now c.args.at c.head_size_at-size.result c.part_at.result.now c.bytes.ensures c.head_size_at-size.ensures c.bytes-2.ensures c.part_at.ensures.bytes in
    let old = c.requires.reads ((g.met.D.Disk.rest_goes_on _ _ c.write_at.ensures.rest).telling.0 shows) in
    reads_written _ _ c.args.at c.part_at.result.now old.0 old.1 c.in_ok-write_at.ensures.write.reads
    ∙ ap (λ (x : List ℕ). Some (Some x)) (ap (λ (x : List ℕ). written_at c.args.at x old.0) is ∙ sym (head_written old.0 b c.args.at old.2 c.requires.there))

pub returns-clause-tied : goal.returns-clause-tied
returns-clause-tied g c = λ base says ahead.
    let b = c.args.self.now.bytes in
    let is = same_bytes b c.bytes.result.now c.bytes-2.result.now c.args.at c.head_size_at-size.result c.part_at.result.now c.bytes.ensures c.head_size_at-size.ensures c.bytes-2.ensures c.part_at.ensures.bytes in
    head_tied base b says c.args.at _ ahead c.requires.there c.part_at.result.now is _ c.write_at.ensures.write.crash (returns-clause-reads g c)

pub write_at-requires : goal.write_at-requires
write_at-requires g c = λ shows. let old = c.requires.reads shows in (old.0, old.1, omega (arith, old.2.long, c.requires.there.inside))
