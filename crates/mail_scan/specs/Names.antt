-- The names of message files.
use Rattle.std.specs.Prelude.{◌≡◌, ℕ, ◌≤◌, List, [], ◌∷◌, ◌++◌, decimal}

-- the name of the message with this uid: the uid in decimal, then one dot
abbrev pub name_of : ℕ → List ℕ
name_of uid = decimal uid ++ (46 ∷ [])

-- the file of the message with this uid
pub record IsMessageName (name : List ℕ) (uid : ℕ) : Type 0 where
  pub least : 1 ≤ uid
  pub most : uid ≤ 4294967295
  pub spelled : name ≡ name_of uid
