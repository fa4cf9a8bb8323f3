use Rattle.std.proofs.Common.{◌≡◌, [], length, take, refl, sym, ap, ◌∙◌, arith, replicate}
use Rattle.std.specs.Int.{w32, to_be_bytes}
use Rattle.check_word.specs.CheckWord.{check_word}
use Rattle.base_bytes.specs.Fields.{part}
use Rattle.index_form.specs.Spelling.{header_fields, header_front, header_bytes}
use Rattle.index_form.proofs.Joined.{whole_part, one_more, joined-concat}
use Rattle.index_form.proofs.header.write_header.Goals as goal

pub returns : goal.returns
unfolding part header_bytes
returns c =
    let item = c.args.header.now in
    let spare_bytes_size : length item.spare_bytes ≡ 12 = search in
    let s1 = one_more 0 4 _ _ [] (replicate 128 0) _ c.to_be_bytes.ensures refl c.put.ensures.front refl in
    let s2 = one_more 4 4 _ _ _ _ _ c.to_be_bytes-2.ensures refl c.put-2.ensures.front s1 in
    let s3 = one_more 8 4 _ _ _ _ _ c.to_be_bytes-3.ensures refl c.put-3.ensures.front s2 in
    let s4 = one_more 12 4 _ _ _ _ _ c.to_be_bytes-4.ensures refl c.put-4.ensures.front s3 in
    let s5 = one_more 16 4 _ _ _ _ _ c.to_be_bytes-5.ensures refl c.put-5.ensures.front s4 in
    let s6 = one_more 20 4 _ _ _ _ _ c.to_be_bytes-6.ensures refl c.put-6.ensures.front s5 in
    let s7 = one_more 24 4 _ _ _ _ _ c.to_be_bytes-7.ensures refl c.put-7.ensures.front s6 in
    let s8 = one_more 28 4 _ _ _ _ _ c.to_be_bytes-8.ensures refl c.put-8.ensures.front s7 in
    let s9 = one_more 32 8 _ _ _ _ _ c.to_be_bytes-9.ensures refl c.put-9.ensures.front s8 in
    let s10 = one_more 40 4 _ _ _ _ _ c.to_be_bytes-10.ensures refl c.put-10.ensures.front s9 in
    let s11 = one_more 44 4 _ _ _ _ _ c.to_be_bytes-11.ensures refl c.put-11.ensures.front s10 in
    let s12 = one_more 48 4 _ _ _ _ _ c.to_be_bytes-12.ensures refl c.put-12.ensures.front s11 in
    let s13 = one_more 52 4 _ _ _ _ _ c.to_be_bytes-13.ensures refl c.put-13.ensures.front s12 in
    let s14 = one_more 56 4 _ _ _ _ _ c.to_be_bytes-14.ensures refl c.put-14.ensures.front s13 in
    let s15 = one_more 60 4 _ _ _ _ _ c.to_be_bytes-15.ensures refl c.put-15.ensures.front s14 in
    let s16 = one_more 64 4 _ _ _ _ _ c.to_be_bytes-16.ensures refl c.put-16.ensures.front s15 in
    let s17 = one_more 68 8 _ _ _ _ _ c.to_be_bytes-17.ensures refl c.put-17.ensures.front s16 in
    let s18 = one_more 76 8 _ _ _ _ _ c.to_be_bytes-18.ensures refl c.put-18.ensures.front s17 in
    let s19 = one_more 84 4 _ _ _ _ _ c.to_be_bytes-19.ensures refl c.put-19.ensures.front s18 in
    let s20 = one_more 88 4 _ _ _ _ _ c.to_be_bytes-20.ensures refl c.put-20.ensures.front s19 in
    let s21 = one_more 92 4 _ _ _ _ _ c.to_be_bytes-21.ensures refl c.put-21.ensures.front s20 in
    let s22 = one_more 96 4 _ _ _ _ _ c.to_be_bytes-22.ensures refl c.put-22.ensures.front s21 in
    let s23 = one_more 100 4 _ _ _ _ _ c.to_be_bytes-23.ensures refl c.put-23.ensures.front s22 in
    let s24 = one_more 104 4 _ _ _ _ _ c.to_be_bytes-24.ensures refl c.put-24.ensures.front s23 in
    let s25 = one_more 108 4 _ _ _ _ _ c.to_be_bytes-25.ensures refl c.put-25.ensures.front s24 in
    let s26 = one_more 112 12 _ _ _ _ _ refl spare_bytes_size c.put-26.ensures.front s25 in
    let front : take 124 c.put-26.new.bytes ≡ header_front item = s26 ∙ joined-concat [] (header_fields item) in
    let word : c.check-word.result ≡ check_word (header_front item) = c.check-word.ensures ∙ ap check_word (c.part_at.ensures.bytes ∙ front) in
    let whole = one_more 124 4 _ _ _ _ _ (c.to_be_bytes-26.ensures ∙ ap (to_be_bytes w32) word) refl c.put-27.ensures.front front in
    sym (whole_part c.put-27.new.bytes 128 (omega arith)) ∙ whole
