use Rattle.std.proofs.Common.{arith, ◌∙◌}
use Rattle.base_bytes.specs.Fields.{part}
use Rattle.index_form.specs.Spelling.{record_front}
use Rattle.index_form.proofs.RecordLemmas.{record_front-record_in}
use Rattle.index_form.proofs.record.record_at.Goals as goal

pub returns-clause-spelled : goal.returns-clause-spelled
unfolding part
returns-clause-spelled c =
    (λ i. record_front (record {
      uid = c.u32_at.ensures i;
      internaldate = c.u32_at-2.ensures i;
      sentdate = c.u32_at-3.ensures i;
      size = c.u32_at-4.ensures i;
      header_size = c.u32_at-5.ensures i;
      gmtime = c.u32_at-6.ensures i;
      cache_offset = c.u32_at-7.ensures i;
      last_updated = c.u32_at-8.ensures i;
      system_flags = c.u32_at-9.ensures i;
      user_flags = (c.copy_from_slice.ensures.after ∙ c.part_at.ensures.bytes) i;
      content_lines = c.u32_at-10.ensures i;
      cache_version = c.u32_at-11.ensures i;
      digest = (c.copy_from_slice-2.ensures.after ∙ c.part_at-2.ensures.bytes) i;
      modseq = c.u64_at.ensures i;
      cache_check = c.u32_at-12.ensures i;
    }))
    ∙ record_front-record_in c.args.bytes.now (λ i. omega (arith, c.type_inv.bytes i)) (omega (arith, c.requires))
