-- Whether a change fits the file and memory.
use Rattle.std.specs.Prelude.{◌≡◌, ℕ, ◌+◌, ◌≤◌, List, length, Option}
use Rattle.std.specs.Option.{option_or}
use Rattle.base_bytes.specs.declared.change.Change.TheVariants.{Put}
use Rattle.base_bytes.specs.declared.limits.TheConstants.{SKIP_LIMIT}
use Rattle.db_core.specs.Refusals.{pair_refusal, size_refusal}
use Rattle.db_core.specs.declared.fault.DbFault.{DbFault}
use Rattle.skip_image.specs.Image.{ImageView}
use Rattle.skip_kind.specs.Kind.{change_size, plain_size, skip_kind}

-- what is owed where a record of this size and a commit record would be appended
abbrev pub room_refusal : List ℕ → ℕ → Option DbFault
room_refusal bytes size = size_refusal skip_kind (length bytes + size + plain_size)

-- what is owed where a pair would be put
abbrev pub put_refusal : List ℕ → ℕ → List ℕ → List ℕ → Option DbFault
put_refusal bytes word key value = option_or (pair_refusal key value) (room_refusal bytes (change_size (Put word key value)))

-- there is room for a record of this size and for a commit record, in the file and in memory
pub record IsRoomy (image : ImageView) (size : ℕ) : Type 0 where
  pub spare : size + plain_size ≤ image.spare
  pub fits : length image.bytes + size + plain_size ≤ SKIP_LIMIT
