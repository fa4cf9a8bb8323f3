-- Transactions, and the map after the first few of them.
use Rattle.std.specs.Prelude.{ℕ, List, fold, take}
use Rattle.base_bytes.specs.OrderedMap.{Map, put, without}
use Rattle.base_bytes.specs.declared.change.Change.{Change}
use Rattle.base_bytes.specs.declared.change.Change.TheVariants.{Put, Del}

abbrev pub Transaction : Type 0
Transaction = List Change

-- what a change makes of a map; the word does not matter
abbrev pub after_change : Map → Change → Map
after_change m (Put word key value) = put m key value
after_change m (Del key) = without m key

-- the map after all changes of a transaction
abbrev pub after_transaction : Map → Transaction → Map
after_transaction m changes = fold after_change m changes

-- the map after these transactions, in order and each whole
abbrev pub after_transactions : Map → List Transaction → Map
after_transactions m transactions = fold after_transaction m transactions

-- the map after the first few of the transactions
abbrev pub after_first : ℕ → Map → List Transaction → Map
after_first count m transactions = after_transactions m (take count transactions)
