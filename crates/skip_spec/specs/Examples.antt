-- Files by their bytes, with their check words as numbers, which zlib gave. Offsets stand at the left.
use Rattle.std.specs.Prelude.{ℕ, List, [], ◌∷◌, ◌++◌, replicate, codes}
use Rattle.std.specs.List.{flat_map}
use Rattle.std.specs.Int.{w32, w64, to_be_bytes}
use Rattle.base_bytes.specs.OrderedMap.{Map}
use Rattle.base_bytes.specs.declared.flaw.Flaw.TheVariants.{Order}
use Rattle.base_bytes.specs.declared.flaw.Damage.{Damage}
use Rattle.skip_spec.specs.Chain.{Entry}
use Rattle.skip_spec.specs.Change.{Changes}
use Rattle.skip_spec.specs.Layout.{Item}

-- ---- parts

-- a number in four bytes
abbrev pub word : ℕ → List ℕ
word n = to_be_bytes w32 n

-- a number in eight bytes
abbrev pub long : ℕ → List ℕ
long n = to_be_bytes w64 n

-- a header: generation, live records, the size when last repacked, the committed end, flags, the check word
abbrev pub header_of : ℕ → ℕ → ℕ → ℕ → ℕ → ℕ → List ℕ
header_of generation count repack_size end flags check =
    0xA1 ∷ 0x02 ∷ 0x8B ∷ 0x0D ∷ codes "twoskip file" ++ replicate 4 0
    ++ word 1 ++ long generation ++ long count ++ long repack_size ++ long end ++ word flags ++ word check

-- a clean header of generation 1, last repacked at 336: so many live records, the committed end, the check word
abbrev pub header : ℕ → ℕ → ℕ → List ℕ
header count end check = header_of 1 count 336 end 0 check

-- the dummy: both slots of level zero, the pointer of level 1, the head check
abbrev pub dummy_with : ℕ → ℕ → ℕ → ℕ → List ℕ
dummy_with first second upper check =
    61 ∷ 31 ∷ replicate 6 0 ++ long first ++ long second ++ long upper ++ replicate 232 0 ++ word check ++ word 0

-- the dummy without upper pointers
abbrev pub dummy : ℕ → ℕ → ℕ → List ℕ
dummy first second check = dummy_with first second 0 check

-- a put record: level, pointers, the bytes of its key and value, one each, both check words
abbrev pub put_bytes : ℕ → List ℕ → List ℕ → List ℕ → ℕ → ℕ → List ℕ
put_bytes level pointers key value head tail =
    43 ∷ level ∷ 0 ∷ 1 ∷ word 1 ++ flat_map long pointers ++ word head ++ word tail ++ key ++ value ++ replicate 6 0

-- a delete record: its pointer, the head check
abbrev pub delete_bytes : ℕ → ℕ → List ℕ
delete_bytes pointer check = 45 ∷ replicate 7 0 ++ long pointer ++ word check ++ word 0

-- a commit record: where its transaction began, the head check
abbrev pub commit_bytes : ℕ → ℕ → List ℕ
commit_bytes start check = 36 ∷ replicate 7 0 ++ long start ++ word check ++ word 0

-- ---- clean files

-- 336 bytes: an empty database
abbrev pub empty_file : List ℕ
empty_file = header 0 336 0xA2943880 ++ dummy 0 0 0x4339BC53

-- 400 bytes: one transaction has put `a` = `b` at 336
abbrev pub one_pair_file : List ℕ
one_pair_file =
    header 1 400 0xD45B53C5
    ++ dummy 0 336 0xBB3F2032
    ++ put_bytes 1 (0 ∷ 0 ∷ []) (codes "a") (codes "b") 0x540B03C5 0x654A2280
    ++ commit_bytes 336 0x5DC51C1A

-- its map
abbrev pub one_pair : Map
one_pair = (codes "a", codes "b") ∷ []

-- its live record
abbrev pub pair_a : Entry
pair_a = record { at = 336; level = 1; key = codes "a"; value = codes "b" }

-- 448 bytes: a second transaction has deleted `a`, and its delete record at 400 leads to the end
abbrev pub deleted_file : List ℕ
deleted_file =
    header 0 448 0x73921F90
    ++ dummy 400 336 0xF496ABCA
    ++ put_bytes 1 (0 ∷ 0 ∷ []) (codes "a") (codes "b") 0x540B03C5 0x654A2280
    ++ commit_bytes 336 0x5DC51C1A
    ++ delete_bytes 0 0xF2CE7271
    ++ commit_bytes 400 0xC6A1DEAA

-- 440 bytes: `a` at 336 leads to `b` at 376, and that back to `a`
abbrev pub circular_file : List ℕ
circular_file =
    header 2 440 0x5EF4B5E3
    ++ dummy 336 0 0xD90DF8BF
    ++ put_bytes 1 (376 ∷ 0 ∷ []) (codes "a") (codes "1") 0xF0B20936 0x7777D1AA
    ++ put_bytes 1 (336 ∷ 0 ∷ []) (codes "b") (codes "2") 0xC99B298D 0xC810CCD4
    ++ commit_bytes 336 0x5DC51C1A

-- the first flaw of the circle: the record at 336 comes again
abbrev pub circular_flaw : Damage
circular_flaw = record { at = 336; check = Order }

-- 472 bytes: `a` = `1` of level 2 at 336, and then `b` = `2` of level 1 at 408; level 1 links `a` alone
abbrev pub two_levels_file : List ℕ
two_levels_file =
    header 2 472 0xC7C6C2AE
    ++ dummy_with 0 336 336 0x4B4DB231
    ++ put_bytes 2 (0 ∷ 408 ∷ 0 ∷ []) (codes "a") (codes "1") 0x4C7FA704 0x7777D1AA
    ++ commit_bytes 336 0x5DC51C1A
    ++ put_bytes 1 (0 ∷ 0 ∷ []) (codes "b") (codes "2") 0x540B03C5 0xC810CCD4
    ++ commit_bytes 408 0xC87A5698

-- its map
abbrev pub two_pairs : Map
two_pairs = (codes "a", codes "1") ∷ (codes "b", codes "2") ∷ []

-- ---- files that a stop left

-- 376 bytes: in the empty database `a` was put at 336, and the dummy's slot 1 leads there
abbrev pub first_store_image : List ℕ
first_store_image =
    header_of 1 0 336 336 1 0xD5930816
    ++ dummy 0 336 0xBB3F2032
    ++ put_bytes 1 (0 ∷ 0 ∷ []) (codes "a") (codes "b") 0x540B03C5 0x654A2280

-- 440 bytes: after `a` = `b` was committed `0` = `1` was put at 400, before `a`, and the dummy's slot 0 leads there
abbrev pub stored_image : List ℕ
stored_image =
    header_of 1 1 336 400 1 0xA35C6353
    ++ dummy 400 336 0xF496ABCA
    ++ put_bytes 1 (0 ∷ 0 ∷ []) (codes "a") (codes "b") 0x540B03C5 0x654A2280
    ++ commit_bytes 336 0x5DC51C1A
    ++ put_bytes 1 (336 ∷ 0 ∷ []) (codes "0") (codes "1") 0xC99B298D 0xEEFB22F2

-- the store as a change: its list is read under 400 before and under 440 after it, and no record was dropped
abbrev pub StoreChanges : Type 0
StoreChanges = Changes one_pair_file stored_image 400 440 400 (336 ∷ 376 ∷ []) (336 ∷ 376 ∷ 400 ∷ []) [] [] (pair_a ∷ [])

-- the same, where of the dummy's head only the check word has landed
abbrev pub torn_image : List ℕ
torn_image =
    header_of 1 1 336 400 1 0xA35C6353
    ++ dummy 0 336 0xF496ABCA
    ++ put_bytes 1 (0 ∷ 0 ∷ []) (codes "a") (codes "b") 0x540B03C5 0x654A2280
    ++ commit_bytes 336 0x5DC51C1A
    ++ put_bytes 1 (336 ∷ 0 ∷ []) (codes "0") (codes "1") 0xC99B298D 0xEEFB22F2

-- ---- fresh layouts

-- `a` = `1` of level 2 and `b` = `2` of level 1
abbrev pub two_items : List Item
two_items = record { level = 2; key = codes "a"; value = codes "1" } ∷ record { level = 1; key = codes "b"; value = codes "2" } ∷ []

-- 448 bytes: their layout of generation 2
abbrev pub two_levels_layout : List ℕ
two_levels_layout =
    header_of 2 2 448 448 0 0x2633F64C
    ++ dummy_with 336 0 336 0x297F6ABC
    ++ put_bytes 2 (384 ∷ 0 ∷ 0 ∷ []) (codes "a") (codes "1") 0x872E5115 0x7777D1AA
    ++ put_bytes 1 (0 ∷ 0 ∷ []) (codes "b") (codes "2") 0x540B03C5 0xC810CCD4
    ++ commit_bytes 336 0x5DC51C1A

-- `a` = `b` of level 1
abbrev pub one_item : List Item
one_item = record { level = 1; key = codes "a"; value = codes "b" } ∷ []

-- 400 bytes: its layout of generation 2
abbrev pub one_pair_layout : List ℕ
one_pair_layout =
    header_of 2 1 400 400 0 0x6CB48C15
    ++ dummy 336 0 0xD90DF8BF
    ++ put_bytes 1 (0 ∷ 0 ∷ []) (codes "a") (codes "b") 0x540B03C5 0x654A2280
    ++ commit_bytes 336 0x5DC51C1A
