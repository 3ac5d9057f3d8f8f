use Rattle.extent_shards.specs.Prelude.{PutsFirst}
use Rattle.extent_shards.proofs.reading.put_units.Given as goal

abbrev pub invariant-loop-i : goal.invariant-loop-i
invariant-loop-i l = PutsFirst l.width l.first l.fn.unit l.i l.fn.fields l.fields l.fn.pages l.pages
