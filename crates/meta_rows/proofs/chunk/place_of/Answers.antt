use Rattle.std.proofs.Common.{rules}
use Rattle.std.proofs.lemmas.Fn.{always_returns_same}
use Rattle.byte_maps.specs.ByteMap.{byte_order}
use Rattle.meta_rows.proofs.chunk.place_of.Goals as goal

pub returns-clause-position : goal.returns-clause-position
returns-clause-position c = c.binary_search_by.ensures.position (λ e. byte_order e.0 c.args.key.now) (always_returns_same _ _ _ (λ a r f' called. search rules))
