use Rattle.std.proofs.Common.{◌≡◌, ◌++◌, List, ℕ, drop, Some, None, ap, subst, ◌∙◌, rules}
use Rattle.base_devices.specs.SpoolCalls.{MessageFile, ReadsFrom}
use Rattle.mem_spool.proofs.FileLemmas.{found_file, no_file, copied}
use Rattle.mem_spool.proofs.mem_spool.MemSpoolSpool.read.Goals as goal

pub returns-in_default-clause-bytes : goal.returns-in_default-clause-bytes
returns-in_default-clause-bytes c file is =
    absurd (no_file c.args.name.now _ file c.in_default.ensures (rw c.count_call.ensures.counted.files is))

pub returns-clause-bytes : goal.returns-clause-bytes
returns-clause-bytes c file is =
    let same = found_file c.args.name.now _ c.in-Some.file.now file c.in-Some.ensures (rw c.count_call.ensures.counted.files is) in
    let rest : c.bytes_from-rest.result.now ≡ drop c.args.at c.in-Some.file.now.bytes.items = c.bytes_from-rest.ensures ∙ ap (drop c.args.at) c.deref.ensures.value in
    let P : List ℕ → Type 0 = λ bytes. ReadsFrom bytes c.args.at (c.copy_from_slice.new.self ++ drop c.min-count.result c.args.into.now) c.min-count.result in
    subst P (ap (λ f. f.bytes) same) (copied _ _ _ _ _ _ rest c.min-count.ensures c.copy_from_slice.ensures.after)
