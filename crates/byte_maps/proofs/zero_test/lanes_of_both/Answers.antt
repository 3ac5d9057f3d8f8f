use Rattle.std.proofs.Common.{sym, arith, length-take-le}
use Rattle.byte_maps.proofs.ZeroLanes.{both_test}
use Rattle.byte_maps.proofs.zero_test.lanes_of_both.Goals as goal

pub slice_bounds-lanes_of-end : goal.slice_bounds-lanes_of-end
slice_bounds-lanes_of-end c = sym (length-take-le 128 c.args.part.now (omega arith))

pub returns : goal.returns
returns c = both_test c.lanes_of.result c.lanes_of-2.result c.args.part.now 128 _ (omega arith) (omega arith) c.lanes_of.ensures c.lanes_of-2.ensures
