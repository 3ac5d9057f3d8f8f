use Rattle.std.proofs.Common.{Option, sym, subst}
use Rattle.std.specs.Prelude.{IfOk, ◌≡◌}
use Rattle.object_model.specs.Prelude.{Change}
use Rattle.script_text.specs.Prelude.{together}
use Rattle.script_text.proofs.Parsing.{together_first}
use Rattle.script_text.proofs.parser.together.Goals as goal

pub returns-in-None : goal.returns-in-None
returns-in-None c = together_first c.args.so_far c.args.more c.in-None.is

pub returns-in-Some : goal.returns-in-Some
returns-in-Some c = subst (λ (o : Option Change). IfOk c.with.result (λ both. both ≡ together o c.args.more)) (sym c.in-Some.is) c.with.ensures
