use Rattle.std.proofs.Common.{◌≡◌, take, map}
use Rattle.std.specs.FinMap.{entries}
use Rattle.plain_store.proofs.reply.names.Given as goal

abbrev pub invariant-loop-entry : goal.invariant-loop-entry
invariant-loop-entry l = l.names.items ≡ map (λ e. e.0) (take l.entry-index (entries l.c))
