use Rattle.std.proofs.Common.{◌≡◌, ℕ, ◌-◌, List, sym, ap, ◌∙◌, Some}
use Rattle.base_bytes.specs.Fields.{part}
use Rattle.base_bytes.specs.Landing.{written_at}
use Rattle.skip_form.specs.Flaws.{head_in}
use Rattle.skip_spec.specs.Records.{head_size_of}
use Rattle.skip_lists.proofs.Setting.{set_as_written}
use Rattle.skip_lists.proofs.Ties.{pointer_moments, pointer_tied, reads_written}
use Rattle.skip_image.proofs.image.Image.write_pointer.Goals as goal

-- the bytes that are written are those of the new head up to its check
same_bytes : (b c d e : List ℕ) (at n : ℕ) (bytes : List ℕ) → d ≡ b → n ≡ head_size_of (head_in d at) → e ≡ c → bytes ≡ part e at (n - 4) → bytes ≡ part c at (head_size_of (head_in b at) - 4)
same_bytes b c d e at n bytes is_b is_n is_c is = is ∙ ap (λ (x : List ℕ). part x at (n - 4)) is_c ∙ ap (λ (m : ℕ). part c at (m - 4)) (is_n ∙ ap (λ (x : List ℕ). head_size_of (head_in x at)) is_b)

pub returns-in_err-write_at-clause-moments : goal.returns-in_err-write_at-clause-moments
returns-in_err-write_at-clause-moments g c = λ base says t may.
    let b = c.args.self.now.bytes in
    let new = c.set_pointer.new.self.bytes in
    let is = same_bytes b new c.bytes.result.now c.bytes-2.result.now c.args.at c.head_size_at-size.result c.part_at.result.now c.bytes.ensures c.head_size_at-size.ensures c.bytes-2.ensures c.part_at.ensures.bytes in
    pointer_moments base b new says _ t c.args.at c.args.slot c.args.to c.requires.there may c.set_pointer.ensures.sets c.set_pointer.ensures.size c.part_at.result.now is _ c.write_at.ensures.call c.write_at.ensures.write.crash

pub returns-clause-moments : goal.returns-clause-moments
returns-clause-moments g c = λ base says t may.
    let b = c.args.self.now.bytes in
    let new = c.set_pointer.new.self.bytes in
    let is = same_bytes b new c.bytes.result.now c.bytes-2.result.now c.args.at c.head_size_at-size.result c.part_at.result.now c.bytes.ensures c.head_size_at-size.ensures c.bytes-2.ensures c.part_at.ensures.bytes in
    pointer_moments base b new says _ t c.args.at c.args.slot c.args.to c.requires.there may c.set_pointer.ensures.sets c.set_pointer.ensures.size c.part_at.result.now is _ c.write_at.ensures.call c.write_at.ensures.write.crash

pub returns-clause-reads : goal.returns-clause-reads
returns-clause-reads g c = λ shows.
    let b = c.args.self.now.bytes in
    let new = c.set_pointer.new.self.bytes in
    let is = same_bytes b new c.bytes.result.now c.bytes-2.result.now c.args.at c.head_size_at-size.result c.part_at.result.now c.bytes.ensures c.head_size_at-size.ensures c.bytes-2.ensures c.part_at.ensures.bytes in
    let written = set_as_written b new c.args.at c.args.slot c.args.to c.requires.there c.requires.slot c.set_pointer.ensures.sets c.set_pointer.ensures.size in
    reads_written _ _ c.args.at c.part_at.result.now b (c.requires.reads ((g.met.D.Disk.rest_goes_on _ _ c.write_at.ensures.rest).telling.0 shows)) c.in_ok-write_at.ensures.write.reads
    ∙ ap (λ (x : List ℕ). Some (Some x)) (ap (λ (x : List ℕ). written_at c.args.at x b) is ∙ sym written)

pub returns-clause-tied : goal.returns-clause-tied
returns-clause-tied g c = λ base says t may.
    let b = c.args.self.now.bytes in
    let new = c.set_pointer.new.self.bytes in
    let is = same_bytes b new c.bytes.result.now c.bytes-2.result.now c.args.at c.head_size_at-size.result c.part_at.result.now c.bytes.ensures c.head_size_at-size.ensures c.bytes-2.ensures c.part_at.ensures.bytes in
    pointer_tied base b new says _ t c.args.at c.args.slot c.args.to c.requires.there may c.set_pointer.ensures.sets c.set_pointer.ensures.size c.part_at.result.now is _ c.write_at.ensures.write.crash (returns-clause-reads g c)
