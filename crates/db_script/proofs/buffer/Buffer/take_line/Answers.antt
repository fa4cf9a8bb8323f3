use Rattle.std.proofs.Common.{◌∙◌, ℕ, ◌-◌, ◌+◌, ◌≤◌, ◌++◌, List, Some, take, drop, length, sym, ap, arith}
use Rattle.std.proofs.lemmas.List.{with_items_is}
use Rattle.db_script.specs.Buffers.{command_in, spelled_in}
use Rattle.db_script.proofs.HeldLemmas.{taken_front, command_at, front_text, between, length_between, length_mid}
use Rattle.db_script.proofs.buffer.Buffer.take_line.Goals as goal

pub returns-clause-command : goal.returns-clause-command
returns-clause-command c =
    let old = c.args.self.now in
    let whole : old.end ≤ length old.bytes.items = omega (arith, old.within, old.bytes.ok.0) in
    let fits : c.args.text ≤ old.end - old.at = omega (arith, c.requires.sizes.0, c.requires.sizes.1, length_between old.at old.end old.bytes.items old.ordered whole) in
    ap (λ (l : List ℕ). spelled_in l c.args.form)
    (front_text old.at old.end c.args.text old.bytes.items fits ∙ ap (λ (n : ℕ). take n (drop old.at old.bytes.items)) (omega arith)
    ∙ ap (λ (l : List ℕ). take (old.at + c.args.text - old.at) (drop old.at l)) (sym c.deref_mut.ensures.value))
    ∙ c.unescape_form-form.ensures.command
    ∙ ap Some (sym (ap (λ (l : List ℕ). command_in (drop old.at l) c.unescape_form-form.result) (with_items_is old.bytes _ (length_mid old.at (old.at + c.args.text - old.at) c.deref_mut.result.now c.unescape_form-form.new.buffer (omega arith) (omega arith) ∙ c.deref_mut.ensures.len))
    ∙ command_at old.at c.deref_mut.result.now c.unescape_form-form.new.buffer _ c.unescape_form-form.result (omega (arith, old.ordered, whole, ap length c.deref_mut.ensures.value)) c.unescape_form-form.ensures.within))

pub returns-clause-held : goal.returns-clause-held
returns-clause-held c =
    let old = c.args.self.now in
    let whole : old.end ≤ length old.bytes.items = omega (arith, old.within, old.bytes.ok.0) in
    let fits : c.args.size ≤ old.end - old.at = omega (arith, c.requires.sizes.1, length_between old.at old.end old.bytes.items old.ordered whole) in
    ap (between (old.at + c.args.size) old.end) (with_items_is old.bytes _ (length_mid old.at (old.at + c.args.text - old.at) c.deref_mut.result.now c.unescape_form-form.new.buffer (omega arith) (omega arith) ∙ c.deref_mut.ensures.len))
    ∙ ap (λ (l : List ℕ). between (old.at + c.args.size) old.end (take old.at l ++ (c.unescape_form-form.new.buffer ++ drop (old.at + c.args.text - old.at) (drop old.at l)))) c.deref_mut.ensures.value
    ∙ ap (λ (n : ℕ). between (old.at + c.args.size) old.end (take old.at old.bytes.items ++ (c.unescape_form-form.new.buffer ++ drop n (drop old.at old.bytes.items)))) (omega arith)
    ∙ taken_front old.at old.end c.args.size c.args.text old.bytes.items c.unescape_form-form.new.buffer c.requires.sizes.0 fits old.ordered whole (omega arith)
