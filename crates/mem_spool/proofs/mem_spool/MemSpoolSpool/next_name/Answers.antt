use Rattle.std.proofs.Common.{◌≡◌, ◌+◌, ◌<◌, length, get_or, Some, ap, ◌∙◌, arith, rules}
use Rattle.mem_spool.proofs.FileLemmas.{name_there, folder_is, name_of}
use Rattle.mem_spool.proofs.mem_spool.MemSpoolSpool.next_name.Goals as goal

pub returns-in-Some-clause-name : goal.returns-in-Some-clause-name
returns-in-Some-clause-name c =
    let name = name_of c.of.result c.as_str.result.now c.of.ensures.some c.as_str.ensures.short c.of.ensures.text in
    let found = c.in-Some.ensures.lookup in
    let files = ap (λ v. v.items) c.count_call.ensures.counted.files in
    let given = c.count_call.ensures.given in
    let there = name_there c.args.self.now.files.items c.deref.result.now c.args.self.now.given c.count_call.new.self.given c.in-Some.file.now c.as_str.result.now (c.deref.ensures.value ∙ files) given found.3.0 found.1 c.as_str.ensures.text in
    rw name (there, folder_is _ _ _ _ files (ap (λ n. n + 1) given))
