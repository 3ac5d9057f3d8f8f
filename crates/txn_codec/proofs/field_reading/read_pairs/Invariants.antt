use Rattle.std.proofs.Common.{◌≡◌, ◌++◌, length}
use Rattle.std.specs.List.{flat_map, AllByRecursion}
use Rattle.txn_codec.specs.Prelude.{pair_bytes, FitsPair}
use Rattle.txn_codec.proofs.field_reading.read_pairs.Given as goal

abbrev pub invariant-pairs : goal.invariant-pairs
invariant-pairs l =
    (length l.pairs.items ≡ l._i) × AllByRecursion FitsPair l.pairs.items × (l.initial.fields ≡ flat_map pair_bytes l.pairs.items ++ l.fields)
