use Rattle.std.proofs.Common.{refl, ap, ◌∙◌}
use Rattle.script_text.specs.Prelude.{outside}
use Rattle.script_text.specs.declared.grammar.Statement.{Statement}
use Rattle.script_text.proofs.Parsing.{outside_passed, outside_end, some_fits, none_fits_there}
use Rattle.script_text.proofs.parser.Parser.take_outside.Goals as goal

pub returns-in-PassedOver : goal.returns-in-PassedOver
returns-in-PassedOver c =
    let p = c.args.self.now in
    some_fits (outside c.args.line p c.args.statement) p p
    (ap (λ (s : Statement). outside c.args.line p s) c.in-PassedOver.is ∙ outside_passed c.args.line p) refl

pub returns-in-End : goal.returns-in-End
returns-in-End c =
    let p = c.args.self.now in
    none_fits_there (outside c.args.line p c.args.statement) p
    (ap (λ (s : Statement). outside c.args.line p s) c.in-End.is ∙ outside_end c.args.line p)
