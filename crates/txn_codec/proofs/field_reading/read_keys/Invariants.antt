use Rattle.std.proofs.Common.{◌≡◌, ◌++◌, length}
use Rattle.std.specs.List.{flat_map, AllByRecursion}
use Rattle.unit_fields.specs.Prelude.{IsName}
use Rattle.txn_codec.specs.Prelude.{name_bytes}
use Rattle.txn_codec.proofs.field_reading.read_keys.Given as goal

abbrev pub invariant-keys : goal.invariant-keys
invariant-keys l =
    (length l.keys.items ≡ l._i) × AllByRecursion IsName l.keys.items × (l.initial.fields ≡ flat_map name_bytes l.keys.items ++ l.fields)
