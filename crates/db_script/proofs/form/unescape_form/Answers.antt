use Rattle.std.proofs.Common.{◌∙◌, ℕ, Option, Some, None, List, sym, subst, ap, refl, length, arith}
use Rattle.std.specs.Prelude.{IsSome}
use Rattle.db_script.specs.Fields.{field_bytes}
use Rattle.db_script.specs.Lines.{set, set_of}
use Rattle.db_script.specs.Buffers.{part_of, spelled_in, IsWithin}
use Rattle.db_script.specs.declared.form.Form.{Form}
use Rattle.db_script.proofs.FieldLemmas.{key_same}
use Rattle.db_script.proofs.PartLemmas.{part_before, part_behind}
use Rattle.db_script.proofs.form.unescape_form.Goals as goal

both_some : (key value : Option (List ℕ)) → IsSome (set_of key value) → IsSome key × IsSome value
both_some None value is = absurd (cc is)
both_some (Some key) None is = absurd (cc is)
both_some (Some key) (Some value) is = (refl, refl)

pub unescape_part-requires-in-Set-2-clause-spelled : goal.unescape_part-requires-in-Set-2-clause-spelled
unescape_part-requires-in-Set-2-clause-spelled c =
    let buffer = c.args.buffer.now in
    let some = subst (λ (f : Form). IsSome (spelled_in buffer f)) c.in-Set.is c.requires.spelled in
    let within = subst (λ (f : Form). IsWithin 0 (length buffer) f) c.in-Set.is c.requires.within in
    subst (λ (l : List ℕ). IsSome (field_bytes l)) (sym (part_behind buffer c.unescape_part-in-Set.new.buffer c.in-Set.key.end c.in-Set.value c.unescape_part-in-Set.ensures.behind within.1.0))
    (both_some _ _ some).1

pub returns-in-Set-clause-command : goal.returns-in-Set-clause-command
returns-in-Set-clause-command c =
    let buffer = c.args.buffer.now in
    let first = c.unescape_part-in-Set in
    let second = c.unescape_part-in-Set-2 in
    let some = subst (λ (f : Form). IsSome (spelled_in buffer f)) c.in-Set.is c.requires.spelled in
    let within = subst (λ (f : Form). IsWithin 0 (length buffer) f) c.in-Set.is c.requires.within in
    let value = part_behind buffer first.new.buffer c.in-Set.key.end c.in-Set.value first.ensures.behind within.1.0 in
    let key = part_before first.new.buffer second.new.buffer c.in-Set.value.start first.result second.ensures.before first.ensures.within.1 (omega (arith, first.ensures.within.2, within.0.2)) in
    ap (spelled_in buffer) c.in-Set.is
    ∙ ap (λ (k : Option (List ℕ)). set_of k (field_bytes (part_of buffer c.in-Set.value))) (key_same _ _ (both_some _ _ some).0 first.ensures.bytes)
    ∙ ap (λ (v : Option (List ℕ)). set_of (Some (part_of first.new.buffer first.result)) v) (ap field_bytes (sym value) ∙ second.ensures.bytes)
    ∙ ap (λ (k : List ℕ). Some (set k (part_of second.new.buffer second.result))) (sym key)
