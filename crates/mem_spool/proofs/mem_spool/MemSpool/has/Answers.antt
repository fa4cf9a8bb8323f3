use Rattle.std.proofs.Common.{◌≡◌, nat_eq, true, ap, sym, ◌∙◌, rules, tests}
use Rattle.std.specs.Cmp.Lexicographic.{pointwise}
use Rattle.std.specs.List.{list_any}
use Rattle.std.proofs.lemmas.Iterator.{YieldsList-from_slice}
use Rattle.std.proofs.lemmas.Iterator.Search.{any_from_yields_List}
use Rattle.mem_spool.proofs.FileLemmas.{named_there, there_named}
use Rattle.mem_spool.proofs.mem_spool.MemSpool.has.Goals as goal

pub returns : goal.returns
returns c =
    let files = c.args.self.now.files.items in
    let name = c.args.name.now in
    let found : c.any.result ≡ list_any (λ file. pointwise nat_eq file.name name) files = any_from_yields_List (λ file. pointwise nat_eq file.name name) _ _ c.any.result c.any.ensures.ran (YieldsList-from_slice files cc) (λ x b q k. search (rules, tests)) in (
      λ is. let all : c.any.result ≡ true = search (rules, tests) in named_there name files (sym found ∙ all),
      λ there. let all : c.any.result ≡ true = found ∙ there_named name files there.0 there.1 there.2 in search (rules, tests),
    )
