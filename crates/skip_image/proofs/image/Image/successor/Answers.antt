use Rattle.std.proofs.Common.{◌≡◌, List, ℕ, sym, ap, ◌∙◌, slice_index}
use Rattle.skip_form.specs.Fields.{pointer_in}
use Rattle.skip_spec.specs.Successor.{pointer_under}
use Rattle.skip_image.proofs.Steps.{step_to_end, step_to_put, step_past_gone}
use Rattle.skip_image.proofs.image.Image.successor.Goals as goal

-- the pointer is that of the image
is_pointer : (b d : List ℕ) (bound at v : ℕ) → d ≡ b → v ≡ pointer_under d bound at → v ≡ pointer_under b bound at
is_pointer b d bound at v same is = is ∙ ap (λ (x : List ℕ). pointer_under x bound at) same

pub returns-then-pointer-eq0-clause-value : goal.returns-then-pointer-eq0-clause-value
returns-then-pointer-eq0-clause-value g c =
    let b = c.args.self.now.bytes in
    let v = c.pointer_under-pointer.result in
    let is = is_pointer b c.bytes.result.now c.args.bound c.args.at v c.bytes.ensures c.pointer_under-pointer.ensures in
    step_to_end b c.args.bound c.args.at v is c.if-pointer-eq0.true

pub returns-then-bytes-pointer-ne45-clause-value : goal.returns-then-bytes-pointer-ne45-clause-value
returns-then-bytes-pointer-ne45-clause-value g c =
    let b = c.args.self.now.bytes in
    let v = c.pointer_under-pointer.result in
    let is = is_pointer b c.bytes.result.now c.args.bound c.args.at v c.bytes.ensures c.pointer_under-pointer.ensures in
    step_to_put b c.args.bound c.args.at v is c.if-pointer-eq0.false (λ e. c.if-bytes-pointer-ne45.true (ap (λ (x : List ℕ). slice_index x v) c.bytes-2.ensures ∙ e))

pub returns-clause-value : goal.returns-clause-value
returns-clause-value g c =
    let b = c.args.self.now.bytes in
    let v = c.pointer_under-pointer.result in
    let is = is_pointer b c.bytes.result.now c.args.bound c.args.at v c.bytes.ensures c.pointer_under-pointer.ensures in
    let same = ap (λ (x : List ℕ). slice_index x v) c.bytes-2.ensures in
    c.pointer.ensures.value
    ∙ ap (λ (x : List ℕ). pointer_in x v 0) c.bytes-3.ensures
    ∙ step_past_gone b c.args.bound c.args.at v is c.if-pointer-eq0.false (sym same ∙ c.if-bytes-pointer-ne45.false)
