use Rattle.std.proofs.Common.{◌≡◌, [], length, take, replicate, refl, sym, ap, ◌∙◌, arith, replicate}
use Rattle.std.specs.Int.{w32, to_be_bytes}
use Rattle.check_word.specs.CheckWord.{check_word}
use Rattle.base_bytes.specs.Fields.{part}
use Rattle.index_form.specs.Spelling.{record_fields, record_front, record_bytes}
use Rattle.index_form.proofs.Joined.{whole_part, one_more, joined-concat}
use Rattle.index_form.proofs.record.write_record.Goals as goal

pub returns : goal.returns
unfolding part record_bytes
returns c =
    let item = c.args.item.now in
    let user_flags_size : length item.user_flags ≡ 16 = search in
    let digest_size : length item.digest ≡ 20 = search in
    let s1 = one_more 0 4 _ _ [] (replicate 96 0) _ c.to_be_bytes.ensures refl c.put.ensures.front refl in
    let s2 = one_more 4 4 _ _ _ _ _ c.to_be_bytes-2.ensures refl c.put-2.ensures.front s1 in
    let s3 = one_more 8 4 _ _ _ _ _ c.to_be_bytes-3.ensures refl c.put-3.ensures.front s2 in
    let s4 = one_more 12 4 _ _ _ _ _ c.to_be_bytes-4.ensures refl c.put-4.ensures.front s3 in
    let s5 = one_more 16 4 _ _ _ _ _ c.to_be_bytes-5.ensures refl c.put-5.ensures.front s4 in
    let s6 = one_more 20 4 _ _ _ _ _ c.to_be_bytes-6.ensures refl c.put-6.ensures.front s5 in
    let s7 = one_more 24 4 _ _ _ _ _ c.to_be_bytes-7.ensures refl c.put-7.ensures.front s6 in
    let s8 = one_more 28 4 _ _ _ _ _ c.to_be_bytes-8.ensures refl c.put-8.ensures.front s7 in
    let s9 = one_more 32 4 _ _ _ _ _ c.to_be_bytes-9.ensures refl c.put-9.ensures.front s8 in
    let s10 = one_more 36 16 _ _ _ _ _ refl user_flags_size c.put-10.ensures.front s9 in
    let s11 = one_more 52 4 _ _ _ _ _ c.to_be_bytes-10.ensures refl c.put-11.ensures.front s10 in
    let s12 = one_more 56 4 _ _ _ _ _ c.to_be_bytes-11.ensures refl c.put-12.ensures.front s11 in
    let s13 = one_more 60 20 _ _ _ _ _ refl digest_size c.put-13.ensures.front s12 in
    let s14 = one_more 80 8 _ _ _ _ _ c.to_be_bytes-12.ensures refl c.put-14.ensures.front s13 in
    let s15 = one_more 88 4 _ _ _ _ _ c.to_be_bytes-13.ensures refl c.put-15.ensures.front s14 in
    let front : take 92 c.put-15.new.bytes ≡ record_front item = s15 ∙ joined-concat [] (record_fields item) in
    let word : c.check-word.result ≡ check_word (record_front item) = c.check-word.ensures ∙ ap check_word (c.part_at.ensures.bytes ∙ front) in
    let whole = one_more 92 4 _ _ _ _ _ (c.to_be_bytes-14.ensures ∙ ap (to_be_bytes w32) word) refl c.put-16.ensures.front front in
    sym (whole_part c.put-16.new.bytes 96 (omega arith)) ∙ whole
