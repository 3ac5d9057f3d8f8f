use Rattle.std.proofs.Common.{◌≡◌, ◌++◌, take}
use Rattle.std.specs.List.{flat_map, AllByRecursion}
use Rattle.txn_codec.specs.Prelude.{pair_bytes, FitsPair}
use Rattle.txn_codec.proofs.field_writing.push_pairs.Given as goal

abbrev pub invariant-loop-pair : goal.invariant-loop-pair
invariant-loop-pair l =
    AllByRecursion FitsPair (take l.pair-index l.pairs) × (l.out.items ≡ l.initial.out.items ++ flat_map pair_bytes (take l.pair-index l.pairs))
