use Rattle.std.proofs.Common.{ap, rules, true, ◌≡◌, ◌∙◌}
use Rattle.std.proofs.lemmas.Result.{IfOk-weaker}
use Rattle.clap.specs.Faults.{is_simple_and_free}
use Rattle.clap.specs.Simple.{app_of}
use Rattle.clap.specs.declared.builder.command.Command.{Command}
use Rattle.tool_words.specs.Commands.{dbtool_app}
use Rattle.tool_words.proofs.CommandLemmas.{added, dbtool_is_simple}
use Rattle.tool_words.proofs.commands.dbtool.Goals as goal

pub returns : goal.returns
returns c =
    let a1 = added _ _ c.in_ok-arg.ensures c.flag.ensures.local c.bare.ensures c.flag.ensures.rule in
    let a2 = added _ _ c.in_ok-arg-2.ensures c.word.ensures.local a1 c.word.ensures.rule in
    let a3 = added _ _ c.in_ok-arg-3.ensures c.word-2.ensures.local a2 c.word-2.ensures.rule in
    let a4 = added _ _ c.in_ok-arg-4.ensures c.word-3.ensures.local a3 c.word-3.ensures.rule in
    let app : (command : Command) → _ → app_of command ≡ dbtool_app = λ command adds. added _ _ adds c.up_to_two_words.ensures.local a4 c.up_to_two_words.ensures.rule in
    record {
      app = IfOk-weaker c.arg-5.result _ _ app c.arg-5.ensures;
      simple = IfOk-weaker c.arg-5.result _ _ (λ command adds. ap is_simple_and_free (app command adds) ∙ dbtool_is_simple) c.arg-5.ensures;
    }
