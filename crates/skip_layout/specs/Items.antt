-- Items in memory, as the items of a layout.
use Rattle.std.specs.Prelude.{ℕ, ◌<◌, ◌≤◌, List, length, map}
use Rattle.skip_spec.specs.Chain.{Entry}
use Rattle.skip_spec.specs.Layout.{Item}
use Rattle.skip_layout.specs.declared.item.LayoutItem.{LayoutItem}

abbrev pub item_of : LayoutItem → Item
item_of i = record { level = i.level; key = i.key.now; value = i.value.now }

abbrev pub items_in : List LayoutItem → List Item
items_in items = map item_of items

-- the live record of an item at an offset
abbrev pub entry_at : ℕ → Item → Entry
entry_at at i = record { at = at; level = i.level; key = i.key; value = i.value }

-- a level that a put record may have, and lengths that fit its head
pub record FitsRecord (i : Item) : Type 0 where
  pub low : 1 ≤ i.level
  pub high : i.level ≤ 31
  pub key_fits : length i.key < 65535
  pub value_fits : length i.value < 4294967295
