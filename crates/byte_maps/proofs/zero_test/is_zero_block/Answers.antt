use Rattle.std.proofs.Common.{ℕ, List, arith}
use Rattle.std.specs.Prelude.{bit_or}
use Rattle.std.specs.Simd.Lanes.{zip2}
use Rattle.byte_maps.proofs.ZeroLanes.{both_test, lanes_test}
use Rattle.byte_maps.proofs.zero_test.is_zero_block.Goals as goal

pub returns : goal.returns
returns c =
    let lanes : List ℕ = zip2 bit_or c.lanes_of_both.result c.lanes_of_both-2.result in
    let test = lanes_test lanes in
    let both = both_test c.lanes_of_both.result c.lanes_of_both-2.result c.args.block.now 256 256 (omega arith) (omega arith) c.lanes_of_both.ensures c.lanes_of_both-2.ensures in
    (λ yes. both.0 (test.0 yes), λ all. test.1 (both.1 all))
