use Rattle.std.proofs.Common.{rules, subst}
use Rattle.std.specs.Prelude.{Contains}
use Rattle.end_points.specs.Memory.{MemoryText}
use Rattle.end_points.proofs.memory_source.MemorySourceSource.read.Goals as goal

pub returns-then-is_listed-clause-fails : goal.returns-then-is_listed-clause-fails
returns-then-is_listed-clause-fails c =
    (λ _. subst (λ (s : MemoryText). Contains s.fails s.calls) c.self.view_is (rw c.deref.ensures.value at (c.is_listed.ensures.0 c.if-is_listed.true)), λ _. search rules)
