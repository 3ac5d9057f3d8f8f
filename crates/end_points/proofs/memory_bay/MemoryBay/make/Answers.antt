use Rattle.std.proofs.Common.{◌≡◌, Some}
use Rattle.std.specs.FinMap as map
use Rattle.end_points.specs.Bay.{start_from}
use Rattle.end_points.specs.BayInside.{memory_shelf}
use Rattle.end_points.proofs.BayLemmas.{start_contents}
use Rattle.end_points.proofs.memory_bay.MemoryBay.make.Goals as goal

is_start : (c : goal.After-new-arg-1) → start_from (map.get c.self.inside.devices c.args.name.now) c.args.how ≡ Some c.in_ok-contents.contents.items
is_start c = rw c.held.ensures at c.in_ok-contents.ensures.ok

pub new-requires-clause-whole : goal.new-requires-clause-whole
new-requires-clause-whole c = (start_contents (memory_shelf c.self.inside) c.args.name.now c.in_ok-contents.contents.items c.args.how c.self.invariant c.requires (is_start c)).0

pub new-requires-clause-few : goal.new-requires-clause-few
new-requires-clause-few c = (start_contents (memory_shelf c.self.inside) c.args.name.now c.in_ok-contents.contents.items c.args.how c.self.invariant c.requires (is_start c)).1
