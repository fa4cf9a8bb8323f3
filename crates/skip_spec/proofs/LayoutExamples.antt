-- Fresh layouts, by computation.
use Rattle.std.proofs.Common.{◌≡◌, [], refl}
use Rattle.check_word.specs.CheckWord.{after_byte, after_bits, after_bit}
use Rattle.skip_form.specs.Spelling.{header_bytes, record_bytes, head_bytes}
use Rattle.skip_spec.specs.Layout.{fresh_layout}
use Rattle.skip_spec.specs.Examples.{empty_file, one_item, one_pair_layout, two_items, two_levels_layout}

pub two_levels_bytes : fresh_layout 2 0 two_items ≡ two_levels_layout
unfolding fresh_layout header_bytes record_bytes head_bytes after_byte after_bits after_bit
two_levels_bytes = refl

pub one_pair_bytes : fresh_layout 2 0 one_item ≡ one_pair_layout
unfolding fresh_layout header_bytes record_bytes head_bytes after_byte after_bits after_bit
one_pair_bytes = refl

pub empty_bytes : fresh_layout 1 0 [] ≡ empty_file
unfolding fresh_layout header_bytes record_bytes head_bytes after_byte after_bits after_bit
empty_bytes = refl
