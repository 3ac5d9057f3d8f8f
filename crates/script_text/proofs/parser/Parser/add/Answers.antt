use Rattle.std.proofs.Common.{Some, sym, ◌∙◌}
use Rattle.script_text.proofs.Parsing.{with_put, longer_block, other_block}
use Rattle.script_text.proofs.parser.Parser.add.Goals as goal

pub returns-in_default : goal.returns-in_default
returns-in_default c =
    other_block c.args.self.now c.args.self.now c.args.block c.args.change (sym c.in_default.is ∙ c.in_ok-both.ensures)

pub returns : goal.returns
returns c =
    longer_block c.args.self.now _ c.args.block c.args.change c.in-Some.both (sym c.in-Some.is ∙ c.in_ok-both.ensures)
    (with_put (record { line = c.args.block.line; change = Some c.in-Some.both }) _ _ c.replace.new.self c.replace.ensures.after c.self.view_is)
