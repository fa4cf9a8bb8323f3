-- How many bytes the calls of a session write.
use Rattle.std.specs.Prelude.{ℕ, ◌+◌, ◌≤◌, List}
use Rattle.base_bytes.specs.declared.change.Change.TheVariants.{Put}
use Rattle.skip_spec.specs.Appending.{store_writes, delete_writes}
use Rattle.skip_spec.specs.Layout.{level_for}
use Rattle.skip_spec.specs.Place.{Place, height}
use Rattle.skip_kind.specs.Kind.{change_size}
use Rattle.skip_seek.specs.Searches.{live_of}

-- a store: its record, a head for each level of it or of the record that it replaces, and the header
abbrev pub StoreWrites : List ℕ → ℕ → List ℕ → List ℕ → ℕ → ℕ → Type 0
StoreWrites bytes word key value before now =
    (place : Place (live_of bytes) key) → now ≤ before + store_writes (change_size (Put word key value)) (level_for word) (height place.dropped)

-- a delete: its record, a head for each level of the one that is deleted, and the header
abbrev pub DeleteWrites : List ℕ → List ℕ → ℕ → ℕ → Type 0
DeleteWrites bytes key before now = (place : Place (live_of bytes) key) → now ≤ before + delete_writes (height place.dropped)
