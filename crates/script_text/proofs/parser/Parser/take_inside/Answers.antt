use Rattle.std.proofs.Common.{ap, ◌∙◌}
use Rattle.script_text.specs.Prelude.{with_block, inside}
use Rattle.script_text.specs.declared.grammar.Statement.{Statement}
use Rattle.script_text.proofs.Parsing.{with_put, inside_passed, inside_begin, inside_other, some_fits, none_fits_there}
use Rattle.script_text.proofs.parser.Parser.take_inside.Goals as goal

pub returns-in-PassedOver : goal.returns-in-PassedOver
returns-in-PassedOver c =
    let p = c.args.self.now in
    let b = c.args.block in
    some_fits (inside p b c.args.statement) (with_block b p) _
    (ap (λ (s : Statement). inside p b s) c.in-PassedOver.is ∙ inside_passed p b) (with_put b _ _ c.replace.new.self c.replace.ensures.after c.self.view_is)

pub returns-in-Begin : goal.returns-in-Begin
returns-in-Begin c =
    let p = c.args.self.now in
    let b = c.args.block in
    none_fits_there (inside p b c.args.statement) p (ap (λ (s : Statement). inside p b s) c.in-Begin.is ∙ inside_begin p b)

pub returns-in-None : goal.returns-in-None
returns-in-None c =
    let p = c.args.self.now in
    let b = c.args.block in
    none_fits_there (inside p b c.args.statement) p
    (ap (λ (s : Statement). inside p b s) c.in-Says.is ∙ inside_other p b c.in-Says.said c.in-None.ensures)
