use Rattle.byte_maps.proofs.Laws.{same}
use Rattle.byte_maps.proofs.theorems.equal_where_alike.Goals as goal

pub returns : goal.returns
returns g c alike = same c.args.one.now c.args.other.now alike
