use Rattle.std.proofs.Common.{◌≡◌, ◌∙◌, ◌+◌, ℕ, Option, Some, None, List, sym, subst, ap, refl, length, arith, take}
use Rattle.std.specs.Prelude.{IfSome, IsNone, is_some}
use Rattle.db_script.specs.Fields.{behind}
use Rattle.db_script.specs.Lines.{Command, read_line, line_command, lone_word}
use Rattle.db_script.specs.Buffers.{IsPart, IsLone, IsWithin}
use Rattle.db_script.specs.declared.form.Form.{Form}
use Rattle.db_script.specs.declared.form.Form.TheVariants.{Begin, Commit, Abort, Show, Get, Set, Delete}
use Rattle.db_script.proofs.form.form_of.Goals as goal

within_all : (from to : ℕ) (form : Form) → IsWithin from to form → IsWithin 0 to form
within_all from to Begin is = tt
within_all from to Commit is = tt
within_all from to Abort is = tt
within_all from to (Show p) is = (omega arith, is.1, is.2)
within_all from to (Get p) is = (omega arith, is.1, is.2)
within_all from to (Delete p) is = (omega arith, is.1, is.2)
within_all from to (Set k v) is = ((omega arith, is.0.1, is.0.2), is.1)

part_all : (from : ℕ) (asks : Option Command) (line : List ℕ) (o : Option Form) → IsPart from asks line o → IsPart 0 asks line o
part_all from asks line None is = is
part_all from asks line (Some form) is = (is.0, is.1, within_all from (length line) form is.2)

pub returns-in-Some : goal.returns-in-Some
unfolding read_line
returns-in-Some c =
    let line = c.args.line.now in
    let found = c.in-Some.ensures.some in
    subst (λ (asks : Option Command). IsPart 0 asks line c.form_with.result)
    (ap (λ (o : Option (List ℕ)). line_command (take c.in-Some.tab line) o) (sym found.rest) ∙ ap (λ (w : List ℕ). line_command w (behind 9 line)) (sym found.front))
    (part_all (c.in-Some.tab + 1) _ line c.form_with.result c.form_with.ensures)

lone_part : (word line : List ℕ) (o : Option Form) → IfSome o (λ form. (l : List ℕ) → IsLone (lone_word word) l form) → (IsNone o → lone_word word ≡ None) → IsPart 0 (lone_word word) line o
lone_part word line None some none = none refl
lone_part word line (Some form) some none = let is = some line in (is.reads, is.spelled, is.within)

pub returns-in-None : goal.returns-in-None
unfolding read_line
returns-in-None c =
    let line = c.args.line.now in
    let nowhere = c.find.ensures.none (ap (λ (o : Option ℕ). is_some o) c.in-None.is) in
    subst (λ (asks : Option Command). IsPart 0 asks line c.lone_form.result)
    (ap (λ (o : Option (List ℕ)). line_command line o) (sym nowhere.rest) ∙ ap (λ (w : List ℕ). line_command w (behind 9 line)) (sym nowhere.front))
    (lone_part line line c.lone_form.result c.lone_form.ensures.some c.lone_form.ensures.none)
