-- The tasks of some scripts over the map of one pair, worked by hand.
use Rattle.std.proofs.Common.{◌≡◌, [], ◌∷◌, refl}
use Rattle.std.specs.Prelude.{codes}
use Rattle.base_bytes.specs.OrderedMap.{Map, put, without, value_at, with_prefix}
use Rattle.base_bytes.specs.Escapes.{escaped, escaped_byte}
use Rattle.base_notes.specs.declared.note.Note.TheVariants.{Done, BadLine}
use Rattle.db_core.specs.Sessions.{at_rest}
use Rattle.rand_core.specs.Stream.{Stream}
use Rattle.flat_db.specs.FlatText.{pair_line}
use Rattle.flat_db.specs.Sessions.{flat_kind}
use Rattle.db_script.specs.Fields.{before, behind, field_bytes}
use Rattle.db_script.specs.Lines.{lines_of, read_line}
use Rattle.db_script.specs.Scripts.{script_task, ending_of, joined, acknowledged}

abbrev a1 : Map
a1 = (97 ∷ [], 49 ∷ []) ∷ []

no_bytes : (words : Stream) → (script_task flat_kind (at_rest a1 0) words []).note ≡ Done
unfolding before behind field_bytes lines_of read_line ending_of
no_bytes words = refl

lone_abort : (words : Stream) → (script_task flat_kind (at_rest a1 0) words (codes "ABORT\n")).note ≡ BadLine 1
unfolding before behind field_bytes lines_of read_line ending_of
lone_abort words = refl

empty_key : (words : Stream) → (script_task flat_kind (at_rest a1 0) words (codes "SET\t\tv\n")).note ≡ BadLine 1
unfolding before behind field_bytes lines_of read_line ending_of
empty_key words = refl

shown : (words : Stream) → (script_task flat_kind (at_rest a1 0) words (codes "BEGIN\nSHOW\nGET\tb\nCOMMIT\n")).output ≡ codes "BEGUN\nPAIR\ta\t1\nEND\nNONE\nCOMMITTED\n"
unfolding before behind field_bytes lines_of read_line ending_of joined escaped escaped_byte with_prefix value_at
shown words = refl

told : (words : Stream) → (script_task flat_kind (at_rest a1 0) words (codes "SET\tb\t2\nCOMMIT\nSET\tc\t3\n")).output ≡ codes "COMMITTED\n"
unfolding before behind field_bytes lines_of read_line ending_of joined escaped escaped_byte with_prefix value_at put without pair_line
told words = refl

acked_at : (words : Stream) → (script_task flat_kind (at_rest a1 0) words (codes "SET\tb\t2\nCOMMIT\nSET\tc\t3\n")).acknowledged 10 ≡ 1
unfolding before behind field_bytes lines_of read_line ending_of joined acknowledged escaped escaped_byte with_prefix value_at put without pair_line
acked_at words = refl
