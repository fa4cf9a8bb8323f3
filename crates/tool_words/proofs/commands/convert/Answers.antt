use Rattle.std.proofs.Common.{ap, rules, true, ◌≡◌, ◌∙◌}
use Rattle.std.proofs.lemmas.Result.{IfOk-weaker}
use Rattle.clap.specs.Faults.{is_simple_and_free}
use Rattle.clap.specs.Simple.{app_of}
use Rattle.clap.specs.declared.builder.command.Command.{Command}
use Rattle.tool_words.specs.Commands.{convert_app}
use Rattle.tool_words.proofs.CommandLemmas.{added, convert_is_simple}
use Rattle.tool_words.proofs.commands.convert.Goals as goal

pub returns : goal.returns
returns c =
    let a1 = added _ _ c.in_ok-arg.ensures c.word.ensures.local c.bare.ensures c.word.ensures.rule in
    let a2 = added _ _ c.in_ok-arg-2.ensures c.word-2.ensures.local a1 c.word-2.ensures.rule in
    let a3 = added _ _ c.in_ok-arg-3.ensures c.word-3.ensures.local a2 c.word-3.ensures.rule in
    let app : (command : Command) → _ → app_of command ≡ convert_app = λ command adds. added _ _ adds c.word-4.ensures.local a3 c.word-4.ensures.rule in
    record {
      app = IfOk-weaker c.arg-4.result _ _ app c.arg-4.ensures;
      simple = IfOk-weaker c.arg-4.result _ _ (λ command adds. ap is_simple_and_free (app command adds) ∙ convert_is_simple) c.arg-4.ensures;
    }
