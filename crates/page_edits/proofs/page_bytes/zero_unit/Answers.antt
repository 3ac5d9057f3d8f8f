use Rattle.std.proofs.Common.{rules}
use Rattle.byte_maps.specs.Units.{zeros}
use Rattle.page_edits.proofs.page_bytes.zero_unit.Goals as goal

pub returns-clause-bytes : goal.returns-clause-bytes
unfolding zeros
returns-clause-bytes c = search rules
