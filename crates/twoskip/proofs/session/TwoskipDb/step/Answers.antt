use Rattle.std.proofs.Common.{◌≡◌, [], Some, subst}
use Rattle.base_bytes.specs.OrderedMap.{Map}
use Rattle.skip_seek.specs.Walks.{Leaves, StepsOver}
use Rattle.skip_txn.specs.Sessions.{SkipSession, bytes_of}
use Rattle.twoskip.proofs.session.TwoskipDb.step.Goals as goal

pub returns-in-Some : goal.returns-in-Some
returns-in-Some g c = subst (λ (s : SkipSession). (left : Map) → Leaves (bytes_of s) c.args.cursor.place left → StepsOver (bytes_of s) left (Some c.in-Some.passed)) c.self.view_is (λ left is. c.in-Some.ensures left is)

pub returns-in-None : goal.returns-in-None
returns-in-None g c = subst (λ (s : SkipSession). (left : Map) → Leaves (bytes_of s) c.args.cursor.place left → left ≡ []) c.self.view_is (λ left is. c.in-None.ensures left is)
