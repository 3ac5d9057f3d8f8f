use Rattle.std.proofs.Common.{Bool, sym, ◌∙◌}
use Rattle.script_text.proofs.Forms.{if_ok}
use Rattle.script_text.proofs.Parsing.{inside_now}
use Rattle.script_text.proofs.parser.Parser.take_in_block.Goals as goal

pub returns : goal.returns
returns c =
    if_ok _ _ c.take_inside.result
    (λ (fits : Bool) becomes n. inside_now n _ c.args.self.now c.take_inside.new.self c.args.statement c.in-Some.block c.take.new.self fits c.self.view_is
    (sym c.take.ensures.value ∙ c.in-Some.is) becomes)
    c.take_inside.ensures
