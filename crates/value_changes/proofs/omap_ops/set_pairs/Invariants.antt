use Rattle.std.proofs.Common.{◌≡◌, drop}
use Rattle.std.specs.List.{AllByRecursion}
use Rattle.unit_fields.specs.Prelude.{IsName}
use Rattle.value_changes.proofs.Named.{with_pairs}
use Rattle.value_changes.proofs.omap_ops.set_pairs.Given as goal

abbrev pub invariant-loop-pair : goal.invariant-loop-pair
invariant-loop-pair l = record {
  set : with_pairs l.coll l.object (drop l.pair-index l.pairs) l.changes ≡ with_pairs l.coll l.object l.pairs l.fn.changes;
  named : AllByRecursion (λ p. IsName p.key) (drop l.pair-index l.pairs) → AllByRecursion (λ p. IsName p.key) l.pairs;
}
