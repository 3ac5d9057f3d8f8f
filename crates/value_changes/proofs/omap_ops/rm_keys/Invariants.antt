use Rattle.std.proofs.Common.{◌≡◌, drop}
use Rattle.std.specs.List.{AllByRecursion}
use Rattle.unit_fields.specs.Prelude.{IsName}
use Rattle.value_changes.proofs.Named.{without_keys}
use Rattle.value_changes.proofs.omap_ops.rm_keys.Given as goal

abbrev pub invariant-loop-key : goal.invariant-loop-key
invariant-loop-key l = record {
  gone : without_keys l.coll l.object (drop l.key-index l.keys) l.changes ≡ without_keys l.coll l.object l.keys l.fn.changes;
  named : AllByRecursion IsName (drop l.key-index l.keys) → AllByRecursion IsName l.keys;
}
