-- A command that is built argument by argument, and that each tool's command is simple.
use Rattle.std.proofs.Common.{◌≡◌, ◌∙◌, ap₂, refl, true, false}
use Rattle.clap.specs.Built.{AddsArg}
use Rattle.clap.specs.Faults.{is_simple_and_free}
use Rattle.clap.specs.Simple.{App, app_of, with_rule}
use Rattle.clap.specs.Walk.{Rule, rule_of}
use Rattle.clap.specs.declared.builder.arg.Arg.{Arg}
use Rattle.clap.specs.declared.builder.command.Command.{Command}
use Rattle.tool_words.specs.Commands.{check_app, convert_app, dbtool_app, purge_app, reconstruct_app, unexpunge_app}

pub added : {old new : Command} {arg : Arg} (app : App) (rule : Rule) → AddsArg old arg new → arg.global ≡ false
    → app_of old ≡ app → rule_of arg ≡ rule → app_of new ≡ with_rule app rule
added app rule adds local before given = adds.shape local ∙ ap₂ with_rule before given

pub dbtool_is_simple : is_simple_and_free dbtool_app ≡ true
dbtool_is_simple = refl

pub convert_is_simple : is_simple_and_free convert_app ≡ true
convert_is_simple = refl

pub reconstruct_is_simple : is_simple_and_free reconstruct_app ≡ true
reconstruct_is_simple = refl

pub unexpunge_is_simple : is_simple_and_free unexpunge_app ≡ true
unexpunge_is_simple = refl

pub purge_is_simple : is_simple_and_free purge_app ≡ true
purge_is_simple = refl

pub check_is_simple : is_simple_and_free check_app ≡ true
check_is_simple = refl
