use Rattle.std.proofs.Common.{◌∙◌, ap, Some, List, ℕ}
use Rattle.std.specs.Option.{option_map}
use Rattle.session_tests.proofs.Trees.{tree_value}
use Rattle.session_tests.proofs.tests.map_db.MapDbDb.fetch.Goals as goal

pub returns-in-Some : goal.returns-in-Some
returns-in-Some g c = ap (λ (l : List ℕ). Some l) c.deref.ensures.value ∙ ap (option_map (λ v. v.items)) c.in-Some.ensures.value ∙ tree_value c.args.self.now.seen.entries c.args.key.now

pub returns-in-None : goal.returns-in-None
returns-in-None g c = ap (option_map (λ v. v.items)) c.in-None.ensures.value ∙ tree_value c.args.self.now.seen.entries c.args.key.now
