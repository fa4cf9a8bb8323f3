-- What stands in the record at an offset of a file, which is the list of its bytes.
use Rattle.std.specs.Prelude.{◌≡◌, ℕ, ◌+◌, ◌-◌, List, replicate}
use Rattle.check_word.specs.CheckWord.{check_word}
use Rattle.skip_form.specs.declared.head.Head.{Head}
use Rattle.skip_form.specs.declared.head.Kind.{Kind}
use Rattle.base_bytes.specs.Fields.{part, u32_in}
use Rattle.skip_form.specs.Flaws.{head_in}
use Rattle.skip_form.specs.Sizes.{head_size, padded}

-- how many bytes stand before the key
abbrev pub head_size_of : Head → ℕ
head_size_of h = head_size h.level h.key_len

-- how many bytes key, value and padding take
abbrev pub body_size_of : Head → ℕ
body_size_of h = padded (h.key_len + h.value_len)

-- the record at an offset is of this type
abbrev pub HasKind : List ℕ → ℕ → Kind → Type 0
HasKind file at kind = (head_in file at).kind ≡ kind

-- the head check of the record at an offset is the check word of all before it
abbrev pub HeadCheckIsRight : List ℕ → ℕ → Type 0
HeadCheckIsRight file at =
    let size = head_size_of (head_in file at) in
    u32_in (part file (at + (size - 8)) 4) ≡ check_word (part file at (size - 8))

-- the tail check of the record at an offset is the check word of key, value and padding
abbrev pub TailCheckIsRight : List ℕ → ℕ → Type 0
TailCheckIsRight file at =
    let h = head_in file at in
    u32_in (part file (at + (head_size_of h - 4)) 4) ≡ check_word (part file (at + head_size_of h) (body_size_of h))

-- the key of the record at an offset
abbrev pub key_in : List ℕ → ℕ → List ℕ
key_in file at =
    let h = head_in file at in
    part file (at + head_size_of h) h.key_len

-- the value of the record at an offset
abbrev pub value_in : List ℕ → ℕ → List ℕ
value_in file at =
    let h = head_in file at in
    part file (at + head_size_of h + h.key_len) h.value_len

-- what stands between the value and the end of the record at an offset is zeros
abbrev pub IsPadded : List ℕ → ℕ → Type 0
IsPadded file at =
    let h = head_in file at in
    let used = h.key_len + h.value_len in
    part file (at + head_size_of h + used) (body_size_of h - used) ≡ replicate (body_size_of h - used) 0
