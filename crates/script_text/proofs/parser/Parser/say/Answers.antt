use Rattle.script_text.proofs.Parsing.{said, not_said}
use Rattle.script_text.proofs.parser.Parser.say.Goals as goal

pub returns-then-not-count : goal.returns-then-not-count
returns-then-not-count c = not_said c.args.line.line c.args.line.what c.args.self.now c.count.new.self c.count.new.self c.if-not-count.ensures

pub returns : goal.returns
returns c = said c.args.line.line c.args.line.what c.args.self.now c.count.new.self c.keep.new.self c.if-not-count.ensures c.in_ok-keep.ensures
