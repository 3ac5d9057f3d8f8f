use Rattle.std.proofs.Common.{None}
use Rattle.script_text.proofs.Parsing.{with_put, begun, not_begun}
use Rattle.script_text.proofs.parser.Parser.begin.Goals as goal

pub returns-then-not-count_command : goal.returns-then-not-count_command
returns-then-not-count_command c =
    not_begun c.args.line c.args.self.now c.count_command.new.self c.count_command.new.self c.if-not-count_command.ensures

pub returns : goal.returns
returns c =
    begun c.args.line c.args.self.now c.count_command.new.self _ c.if-not-count_command.ensures
    (with_put (record { line = c.args.line; change = None }) _ _ c.replace.new.self c.replace.ensures.after c.self.view_is)
