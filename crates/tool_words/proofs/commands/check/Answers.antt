use Rattle.std.proofs.Common.{ap, rules, true, ◌≡◌, ◌∙◌}
use Rattle.std.proofs.lemmas.Result.{IfOk-weaker}
use Rattle.clap.specs.Faults.{is_simple_and_free}
use Rattle.clap.specs.Simple.{app_of}
use Rattle.clap.specs.declared.builder.command.Command.{Command}
use Rattle.tool_words.specs.Commands.{check_app}
use Rattle.tool_words.proofs.CommandLemmas.{added, check_is_simple}
use Rattle.tool_words.proofs.commands.check.Goals as goal

pub returns : goal.returns
returns c =
    let a1 = added _ _ c.in_ok-arg.ensures c.flag.ensures.local c.bare.ensures c.flag.ensures.rule in
    let app : (command : Command) → _ → app_of command ≡ check_app = λ command adds. added _ _ adds c.word.ensures.local a1 c.word.ensures.rule in
    record {
      app = IfOk-weaker c.arg-2.result _ _ app c.arg-2.ensures;
      simple = IfOk-weaker c.arg-2.result _ _ (λ command adds. ap is_simple_and_free (app command adds) ∙ check_is_simple) c.arg-2.ensures;
    }
