use Rattle.std.proofs.Common.{ap, ◌∙◌}
use Rattle.object_model.specs.declared.command.Command.TheVariants as command
use Rattle.object_model.specs.Prelude.{Change}
use Rattle.script_text.specs.Prelude.{with_line}
use Rattle.script_text.specs.declared.line.What.{What}
use Rattle.script_text.specs.declared.line.What.TheVariants.{Command}
use Rattle.script_text.proofs.Parsing.{ended_block, empty_block}
use Rattle.script_text.proofs.parser.Parser.end.Goals as goal

pub returns-in_default : goal.returns-in_default
returns-in_default c = empty_block c.args.self.now c.args.self.now c.args.block c.in_default.is

pub returns : goal.returns
returns c =
    ended_block c.args.self.now c.keep.new.self c.args.block c.in-Some.change c.in-Some.is c.requires
    (c.in_ok-keep.ensures ∙ ap (λ (w : What). with_line (record { line = c.args.block.line; what = w }) c.args.self.now) (c.change-what.ensures ∙ ap (λ (x : Change). Command (command.Change x)) c.in-Some.change-is))
