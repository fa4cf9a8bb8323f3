-- The live records of a file, in the order of their keys.
use Rattle.std.specs.Prelude.{◌≡◌, ℕ, List, [], ◌∷◌, map}
use Rattle.base_bytes.specs.OrderedMap.{Map, IsBelow}
use Rattle.skip_form.specs.declared.head.Kind.TheVariants.{Put}
use Rattle.skip_form.specs.Flaws.{head_in}
use Rattle.skip_spec.specs.Records.{HasKind, TailCheckIsRight, IsPadded, key_in, value_in}
use Rattle.skip_spec.specs.Rows.{IsAmong}
use Rattle.skip_spec.specs.Successor.{IsSuccessorUnder}

-- a live record: its offset, level, key and value
pub record Entry : Type 0 where
  pub at : ℕ
  pub level : ℕ
  pub key : List ℕ
  pub value : List ℕ

-- the entry of the put record at an offset
abbrev pub entry_at : List ℕ → ℕ → Entry
entry_at file at = record { at = at; level = (head_in file at).level; key = key_in file at; value = value_in file at }

-- a put record with this level, key and value stands at the entry's offset
pub record StandsAsEntry (file starts : List ℕ) (e : Entry) : Type 0 where
  pub start : IsAmong starts e.at
  pub kind : HasKind file e.at Put
  pub level : (head_in file e.at).level ≡ e.level
  pub key : key_in file e.at ≡ e.key
  pub value : value_in file e.at ≡ e.value
  pub tail_check : TailCheckIsRight file e.at
  pub padding : IsPadded file e.at

-- These are the live records after the one at an offset, whose key is given. The dummy's is the empty
-- key. Keys rise strictly, so no live record has an empty key.
abbrev pub Chain : List ℕ → ℕ → List ℕ → ℕ → List ℕ → List Entry → Type 0
Chain file bound starts at key [] = IsSuccessorUnder file bound starts at 0
Chain file bound starts at key (e ∷ es) =
    IsSuccessorUnder file bound starts at e.at
    × StandsAsEntry file starts e
    × IsBelow key e.key
    × Chain file bound starts e.at e.key es

-- the map of these live records
abbrev pub pairs : List Entry → Map
pairs es = map (λ e. (e.key, e.value)) es
