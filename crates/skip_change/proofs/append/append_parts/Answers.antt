use Rattle.std.proofs.Common.{◌+◌, ◌-◌, ◌++◌, length, replicate, arith}
use Rattle.skip_form.specs.Sizes.{padded}
use Rattle.skip_form.specs.Spelling.{body_bytes}
use Rattle.skip_spec.proofs.ByteLists.{bytes-append, bytes-zeros}
use Rattle.skip_change.proofs.append.append_parts.Goals as goal

pub returns-clause-fits : goal.returns-clause-fits
returns-clause-fits c =
    let key = c.args.key.now in
    let value = c.args.value.now in
    bytes-append c.args.head.now (body_bytes key value) (λ i. omega (arith, c.type_inv.head i))
    (bytes-append (key ++ value) (replicate (padded (length key + length value) - (length key + length value)) 0) (bytes-append key value (λ i. omega (arith, c.type_inv.key i)) (λ i. omega (arith, c.type_inv.value i))) (bytes-zeros (padded (length key + length value) - (length key + length value))))
