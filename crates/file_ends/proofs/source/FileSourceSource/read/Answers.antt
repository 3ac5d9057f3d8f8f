use Rattle.std.proofs.Common.{rules, arith, take, refl}
use Rattle.std.proofs.lemmas.Grind.{common_steps}
use Rattle.file_ends.proofs.source.FileSourceSource.read.Goals as goal

pub returns-in-Ok-clause-ok : goal.returns-in-Ok-clause-ok
returns-in-Ok-clause-ok c = record {
  piece = take c.in-Ok.n c.read_some.new.into;
  size = search rules;
  few = search rules;
  appended = grind (arith, common_steps);
  next = tt;
  rest = refl;
  end = λ _ _. tt;
}
