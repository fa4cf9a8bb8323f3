use Rattle.std.proofs.Common.{◌≡◌, ◌≤◌, ℕ, List, length, take, Some, None, ap, sym, ◌∙◌, arith}
use Rattle.std.proofs.lemmas.List.{length-take}
use Rattle.base_bytes.specs.declared.flaw.Flaw.{Flaw}
use Rattle.skip_form.specs.declared.head.Head.{Head}
use Rattle.skip_form.specs.Flaws.{head_flaw, head_in}
use Rattle.skip_form.proofs.HeadLemmas.{head_inside}
use Rattle.skip_spec.specs.FirstFlaw.{end_of, at_place, row_flaw}
use Rattle.skip_spec.proofs.BeforeEnd.{heads_before}
use Rattle.skip_image.proofs.front.row.Goals as goal

-- the head in the file up to an end
no_flaw : (file : List ℕ) (end at : ℕ) → end ≡ end_of file → head_flaw (take end file) at ≡ None → row_flaw file at ≡ None
unfolding row_flaw
no_flaw file end at is e = ap (λ (n : ℕ). at_place at (head_flaw (take n file) at)) (sym is) ∙ ap (at_place at) e

a_flaw : (file : List ℕ) (end at : ℕ) (f : Flaw) → end ≡ end_of file → head_flaw (take end file) at ≡ Some f → row_flaw file at ≡ Some (record { at = at; check = f })
unfolding row_flaw
a_flaw file end at f is e = ap (λ (n : ℕ). at_place at (head_flaw (take n file) at)) (sym is) ∙ ap (at_place at) e

same : (file : List ℕ) (end at : ℕ) (h : Head) → end ≤ length file → head_flaw (take end file) at ≡ None → h ≡ head_in (take end file) at → h ≡ head_in file at
same file end at h le none is =
    let fits = head_inside (take end file) at none in
    is ∙ heads_before file end at (omega (arith, fits, length-take end file)) le

pub returns-in-Ok-clause-finds : goal.returns-in-Ok-clause-finds
returns-in-Ok-clause-finds c = no_flaw c.args.file.now c.args.log.end c.args.at c.requires.log.end c.in-Ok.ensures.fields.0

pub returns-in-Ok-clause-head : goal.returns-in-Ok-clause-head
returns-in-Ok-clause-head c = same c.args.file.now c.args.log.end c.args.at c.in-Ok.head (omega (arith, c.requires.inside, c.requires.log.end)) c.in-Ok.ensures.fields.0 c.in-Ok.ensures.fields.1

pub returns-in-Err-clause-finds : goal.returns-in-Err-clause-finds
returns-in-Err-clause-finds c = a_flaw c.args.file.now c.args.log.end c.args.at c.in-Err.check c.requires.log.end ((c.head_at.ensures.flaw c.in-Err.check).0 c.in-Err.is)
