use Rattle.std.proofs.Common.{◌≡◌, ◌++◌, take}
use Rattle.std.specs.List.{flat_map, AllByRecursion}
use Rattle.unit_fields.specs.Prelude.{IsName}
use Rattle.txn_codec.specs.Prelude.{name_bytes}
use Rattle.txn_codec.proofs.field_writing.push_keys.Given as goal

abbrev pub invariant-loop-key : goal.invariant-loop-key
invariant-loop-key l =
    AllByRecursion IsName (take l.key-index l.keys) × (l.out.items ≡ l.initial.out.items ++ flat_map name_bytes (take l.key-index l.keys))
