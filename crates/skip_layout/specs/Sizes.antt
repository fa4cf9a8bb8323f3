-- How many bytes the record of an item takes.
use Rattle.std.specs.Prelude.{ℕ, length}
use Rattle.skip_form.specs.Sizes.{record_size}
use Rattle.skip_spec.specs.Layout.{Item}

abbrev pub item_size : Item → ℕ
item_size i = record_size i.level (length i.key) (length i.value)
