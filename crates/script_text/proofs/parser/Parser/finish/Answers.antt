use Rattle.std.proofs.Common.{sym, ap, subst, ◌∙◌}
use Rattle.std.specs.Prelude.{IsSome, IsNone}
use Rattle.script_text.specs.Prelude.{Parse}
use Rattle.script_text.proofs.parser.Parser.finish.Goals as goal

pub returns-then-is_some : goal.returns-then-is_some
returns-then-is_some c = subst (λ (p : Parse). IsSome p.block) c.self.view_is (sym c.is_some.ensures ∙ c.if-is_some.true)

pub returns : goal.returns
returns c = (
  subst (λ (p : Parse). IsNone p.block) c.self.view_is (sym c.is_some.ensures ∙ c.if-is_some.false),
  ap (λ (p : Parse). p.lines) c.self.view_is,
)
