use Rattle.std.proofs.Common.{ap, rules, true, ◌≡◌, ◌∙◌}
use Rattle.std.proofs.lemmas.Result.{IfOk-weaker}
use Rattle.clap.specs.Faults.{is_simple_and_free}
use Rattle.clap.specs.Simple.{app_of}
use Rattle.clap.specs.declared.builder.command.Command.{Command}
use Rattle.tool_words.specs.Commands.{reconstruct_app}
use Rattle.tool_words.proofs.CommandLemmas.{added, reconstruct_is_simple}
use Rattle.tool_words.proofs.commands.reconstruct.Goals as goal

pub returns : goal.returns
returns c =
    let a1 = added _ _ c.in_ok-arg.ensures c.flag.ensures.local c.bare.ensures c.flag.ensures.rule in
    let a2 = added _ _ c.in_ok-arg-2.ensures c.flag-2.ensures.local a1 c.flag-2.ensures.rule in
    let a3 = added _ _ c.in_ok-arg-3.ensures c.flag-3.ensures.local a2 c.flag-3.ensures.rule in
    let a4 = added _ _ c.in_ok-arg-4.ensures c.flag-4.ensures.local a3 c.flag-4.ensures.rule in
    let a5 = added _ _ c.in_ok-arg-5.ensures c.flag-5.ensures.local a4 c.flag-5.ensures.rule in
    let a6 = added _ _ c.in_ok-arg-6.ensures c.word.ensures.local a5 c.word.ensures.rule in
    let app : (command : Command) → _ → app_of command ≡ reconstruct_app = λ command adds. added _ _ adds (search rules) a6 (search rules) in
    record {
      app = IfOk-weaker c.arg-7.result _ _ app c.arg-7.ensures;
      simple = IfOk-weaker c.arg-7.result _ _ (λ command adds. ap is_simple_and_free (app command adds) ∙ reconstruct_is_simple) c.arg-7.ensures;
    }
