use Rattle.std.proofs.Common.{rules, ◌≡◌, Bool, None}
use Rattle.script_text.proofs.Forms.{if_ok}
use Rattle.script_text.proofs.Parsing.{outside_now}
use Rattle.script_text.proofs.parser.Parser.take.Goals as goal

pub returns-then-is_none : goal.returns-then-is_none
returns-then-is_none c =
    let none : c.args.self.now.block ≡ None = search rules in
    if_ok _ _ c.take_outside.result
    (λ (fits : Bool). outside_now c.args.line c.args.self.now c.take_outside.new.self c.args.statement fits none)
    c.take_outside.ensures
