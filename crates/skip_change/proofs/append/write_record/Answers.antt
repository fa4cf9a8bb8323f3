use Rattle.std.proofs.Common.{◌≡◌, ℕ, ◌+◌, ◌-◌, ◌++◌, List, length, sym, ap, ◌∙◌, Some, arith}
use Rattle.std.proofs.lemmas.List.{length-append}
use Rattle.base_bytes.specs.Fields.{part}
use Rattle.base_bytes.specs.Landing.{written_at}
use Rattle.skip_form.specs.Spelling.{record_bytes}
use Rattle.skip_spec.specs.Appending.{record_of}
use Rattle.skip_spec.proofs.SpelledRecords.{length-record}
use Rattle.skip_lists.proofs.Appended.{numbers_fit}
use Rattle.skip_lists.proofs.Ties.{added_part, append_moments, append_tied, written_end, reads_written, write_up_to}
use Rattle.skip_change.proofs.append.write_record.Goals as goal

-- the bytes that are written are those of the record
written_bytes : (b added c d : List ℕ) (end : ℕ) (bytes : List ℕ) (long : ℕ) → c ≡ b ++ added → end ≡ length b → long ≡ length c → d ≡ c → bytes ≡ part d end (long - end) → bytes ≡ added
written_bytes b added c d end bytes long is_c is_end is_long is_d is = is ∙ ap (λ (x : List ℕ). part x end (long - end)) is_d ∙ added_part b added c end (long - end) is_c is_end (ap (λ (n : ℕ). n - end) is_long)

longer : (b added c : List ℕ) (n : ℕ) → c ≡ b ++ added → length added ≡ n → length c ≡ length b + n
longer b added c n e l = ap length e ∙ length-append b added ∙ ap (λ (m : ℕ). length b + m) l

pub returns-in_err-write_at-clause-moments : goal.returns-in_err-write_at-clause-moments
returns-in_err-write_at-clause-moments g c = λ base says t.
    let is = written_bytes c.args.image.now.bytes (record_bytes (record_of c.args.kind c.args.level c.args.pointers.now c.args.key.now c.args.value.now)) c.append_record.new.image.bytes c.bytes.result.now c.length-end.result c.part_at.result.now c.length.result c.append_record.ensures.bytes c.length-end.ensures.size c.length.ensures.size c.bytes.ensures c.part_at.ensures.bytes in
    append_moments base c.args.image.now.bytes (record_bytes (record_of c.args.kind c.args.level c.args.pointers.now c.args.key.now c.args.value.now)) c.append_record.new.image.bytes says _ t c.append_record.ensures.bytes c.length-end.result c.length-end.ensures.size c.part_at.result.now is _ c.write_at.ensures.call c.write_at.ensures.write.crash

pub returns-clause-moments : goal.returns-clause-moments
returns-clause-moments g c = λ base says t.
    let is = written_bytes c.args.image.now.bytes (record_bytes (record_of c.args.kind c.args.level c.args.pointers.now c.args.key.now c.args.value.now)) c.append_record.new.image.bytes c.bytes.result.now c.length-end.result c.part_at.result.now c.length.result c.append_record.ensures.bytes c.length-end.ensures.size c.length.ensures.size c.bytes.ensures c.part_at.ensures.bytes in
    append_moments base c.args.image.now.bytes (record_bytes (record_of c.args.kind c.args.level c.args.pointers.now c.args.key.now c.args.value.now)) c.append_record.new.image.bytes says _ t c.append_record.ensures.bytes c.length-end.result c.length-end.ensures.size c.part_at.result.now is _ c.write_at.ensures.call c.write_at.ensures.write.crash

pub returns-in_err-write_at-clause-form : goal.returns-in_err-write_at-clause-form
returns-in_err-write_at-clause-form g c = record { head = record { level = c.requires.level; lengths = c.requires.lengths; size = omega arith }; slots = c.requires.pointers; pointers = numbers_fit c.args.pointers.now (λ i. omega (arith, c.type_inv.pointers i)) }

pub returns-clause-form : goal.returns-clause-form
returns-clause-form g c = record { head = record { level = c.requires.level; lengths = c.requires.lengths; size = omega arith }; slots = c.requires.pointers; pointers = numbers_fit c.args.pointers.now (λ i. omega (arith, c.type_inv.pointers i)) }

pub returns-in_err-write_at-clause-length : goal.returns-in_err-write_at-clause-length
returns-in_err-write_at-clause-length g c = longer c.args.image.now.bytes (record_bytes (record_of c.args.kind c.args.level c.args.pointers.now c.args.key.now c.args.value.now)) c.append_record.new.image.bytes _ c.append_record.ensures.bytes (length-record (record_of c.args.kind c.args.level c.args.pointers.now c.args.key.now c.args.value.now) (record { head = record { level = c.requires.level; lengths = c.requires.lengths; size = omega arith }; slots = c.requires.pointers; pointers = numbers_fit c.args.pointers.now (λ i. omega (arith, c.type_inv.pointers i)) }))

pub returns-clause-length : goal.returns-clause-length
returns-clause-length g c = longer c.args.image.now.bytes (record_bytes (record_of c.args.kind c.args.level c.args.pointers.now c.args.key.now c.args.value.now)) c.append_record.new.image.bytes _ c.append_record.ensures.bytes (length-record (record_of c.args.kind c.args.level c.args.pointers.now c.args.key.now c.args.value.now) (record { head = record { level = c.requires.level; lengths = c.requires.lengths; size = omega arith }; slots = c.requires.pointers; pointers = numbers_fit c.args.pointers.now (λ i. omega (arith, c.type_inv.pointers i)) }))

pub returns-in_err-write_at-clause-written : goal.returns-in_err-write_at-clause-written
returns-in_err-write_at-clause-written g c =
    let is = written_bytes c.args.image.now.bytes (record_bytes (record_of c.args.kind c.args.level c.args.pointers.now c.args.key.now c.args.value.now)) c.append_record.new.image.bytes c.bytes.result.now c.length-end.result c.part_at.result.now c.length.result c.append_record.ensures.bytes c.length-end.ensures.size c.length.ensures.size c.bytes.ensures c.part_at.ensures.bytes in
    let size = ap length is ∙ length-record (record_of c.args.kind c.args.level c.args.pointers.now c.args.key.now c.args.value.now) (record { head = record { level = c.requires.level; lengths = c.requires.lengths; size = omega arith }; slots = c.requires.pointers; pointers = numbers_fit c.args.pointers.now (λ i. omega (arith, c.type_inv.pointers i)) }) in
    omega (arith, c.write_at.ensures.write.written, size)

pub returns-clause-written : goal.returns-clause-written
returns-clause-written g c =
    let is = written_bytes c.args.image.now.bytes (record_bytes (record_of c.args.kind c.args.level c.args.pointers.now c.args.key.now c.args.value.now)) c.append_record.new.image.bytes c.bytes.result.now c.length-end.result c.part_at.result.now c.length.result c.append_record.ensures.bytes c.length-end.ensures.size c.length.ensures.size c.bytes.ensures c.part_at.ensures.bytes in
    let size = ap length is ∙ length-record (record_of c.args.kind c.args.level c.args.pointers.now c.args.key.now c.args.value.now) (record { head = record { level = c.requires.level; lengths = c.requires.lengths; size = omega arith }; slots = c.requires.pointers; pointers = numbers_fit c.args.pointers.now (λ i. omega (arith, c.type_inv.pointers i)) }) in
    omega (arith, c.write_at.ensures.write.written, size)

pub returns-clause-reads : goal.returns-clause-reads
returns-clause-reads g c = λ told.
    let is = written_bytes c.args.image.now.bytes (record_bytes (record_of c.args.kind c.args.level c.args.pointers.now c.args.key.now c.args.value.now)) c.append_record.new.image.bytes c.bytes.result.now c.length-end.result c.part_at.result.now c.length.result c.append_record.ensures.bytes c.length-end.ensures.size c.length.ensures.size c.bytes.ensures c.part_at.ensures.bytes in
    reads_written _ _ c.length-end.result c.part_at.result.now c.args.image.now.bytes (c.requires.reads ((g.met.D.Disk.rest_goes_on _ _ c.write_at.ensures.rest).telling.0 told)) c.in_ok-write_at.ensures.write.reads
    ∙ ap (λ (x : List ℕ). Some (Some x)) (own c.args.image.now.bytes (record_bytes (record_of c.args.kind c.args.level c.args.pointers.now c.args.key.now c.args.value.now)) c.append_record.new.image.bytes c.length-end.result c.part_at.result.now c.append_record.ensures.bytes c.length-end.ensures.size is)
  where
    own : (b added c : List ℕ) (at : ℕ) (bytes : List ℕ) → c ≡ b ++ added → at ≡ length b → bytes ≡ added → written_at at bytes b ≡ c
    own b added c at bytes e is_at is = ap (λ (x : List ℕ). written_at at x b) is ∙ ap (λ (n : ℕ). written_at n added b) is_at ∙ written_end b added ∙ sym e

pub returns-clause-tied : goal.returns-clause-tied
returns-clause-tied g c = λ base says t.
    let is = written_bytes c.args.image.now.bytes (record_bytes (record_of c.args.kind c.args.level c.args.pointers.now c.args.key.now c.args.value.now)) c.append_record.new.image.bytes c.bytes.result.now c.length-end.result c.part_at.result.now c.length.result c.append_record.ensures.bytes c.length-end.ensures.size c.length.ensures.size c.bytes.ensures c.part_at.ensures.bytes in
    append_tied base c.args.image.now.bytes (record_bytes (record_of c.args.kind c.args.level c.args.pointers.now c.args.key.now c.args.value.now)) c.append_record.new.image.bytes says _ t c.append_record.ensures.bytes c.length-end.result c.length-end.ensures.size c.part_at.result.now is _ c.write_at.ensures.write.crash (returns-clause-reads g c)

pub returns-in_err-write_at-clause-long : goal.returns-in_err-write_at-clause-long
returns-in_err-write_at-clause-long g c = λ most le.
    let is = written_bytes c.args.image.now.bytes (record_bytes (record_of c.args.kind c.args.level c.args.pointers.now c.args.key.now c.args.value.now)) c.append_record.new.image.bytes c.bytes.result.now c.length-end.result c.part_at.result.now c.length.result c.append_record.ensures.bytes c.length-end.ensures.size c.length.ensures.size c.bytes.ensures c.part_at.ensures.bytes in
    let size = ap length is in
    let long = ap length c.append_record.ensures.bytes ∙ length-append c.args.image.now.bytes (record_bytes (record_of c.args.kind c.args.level c.args.pointers.now c.args.key.now c.args.value.now)) in
    write_up_to most _ _ c.length-end.result c.part_at.result.now (omega (arith, le, size, long, c.length-end.ensures.size)) c.write_at.ensures.call c.write_at.ensures.write.crash

pub returns-clause-long : goal.returns-clause-long
returns-clause-long g c = λ most le.
    let is = written_bytes c.args.image.now.bytes (record_bytes (record_of c.args.kind c.args.level c.args.pointers.now c.args.key.now c.args.value.now)) c.append_record.new.image.bytes c.bytes.result.now c.length-end.result c.part_at.result.now c.length.result c.append_record.ensures.bytes c.length-end.ensures.size c.length.ensures.size c.bytes.ensures c.part_at.ensures.bytes in
    let size = ap length is in
    let long = ap length c.append_record.ensures.bytes ∙ length-append c.args.image.now.bytes (record_bytes (record_of c.args.kind c.args.level c.args.pointers.now c.args.key.now c.args.value.now)) in
    write_up_to most _ _ c.length-end.result c.part_at.result.now (omega (arith, le, size, long, c.length-end.ensures.size)) c.write_at.ensures.call c.write_at.ensures.write.crash
