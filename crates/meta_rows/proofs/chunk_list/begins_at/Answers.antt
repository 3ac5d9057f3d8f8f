use Rattle.std.proofs.Common.{rules}
use Rattle.std.proofs.lemmas.Fn.{always_returns_same}
use Rattle.meta_rows.specs.Prelude.{first_order}
use Rattle.meta_rows.proofs.chunk_list.begins_at.Goals as goal

pub returns-clause-position : goal.returns-clause-position
returns-clause-position c = c.binary_search_by.ensures.position (first_order c.args.key.now) (always_returns_same _ _ _ (λ a r f' called. search rules))
