use Rattle.std.proofs.Common.{◌≡◌, ℕ, ◌++◌, List, length, take, ap, subst, ◌∙◌}
use Rattle.base_bytes.specs.Fields.{AreBytes}
use Rattle.skip_form.specs.declared.head.Head.{Head}
use Rattle.skip_form.specs.Sizes.{head_size}
use Rattle.skip_form.specs.Spelling.{record_bytes, head_bytes, head_of, body_bytes}
use Rattle.skip_spec.specs.Appending.{record_of}
use Rattle.skip_change.proofs.append.append_record.Goals as goal

spelled : (c : goal.After-append_parts) → take (head_size c.args.level (length c.args.key.now)) c.spell_head-bytes.result ++ body_bytes c.args.key.now c.args.value.now ≡ record_bytes (record_of c.args.kind c.args.level c.args.pointers.now c.args.key.now c.args.value.now)
unfolding record_bytes head_bytes
spelled c =
    let h : Head = head_of (record_of c.args.kind c.args.level c.args.pointers.now c.args.key.now c.args.value.now) in
    ap (λ (x : List ℕ). x ++ body_bytes c.args.key.now c.args.value.now) (c.spell_head-bytes.ensures ∙ ap (λ (t : ℕ). head_bytes h c.args.pointers.now t) c.tail_check.ensures)

pub returns-clause-bytes : goal.returns-clause-bytes
returns-clause-bytes c = c.append_parts.ensures.bytes ∙ ap (λ (x : List ℕ). c.args.image.now.bytes ++ x) (spelled c)

pub returns-clause-fits : goal.returns-clause-fits
returns-clause-fits c = subst (λ (x : List ℕ). AreBytes x) (spelled c) c.append_parts.ensures.fits
