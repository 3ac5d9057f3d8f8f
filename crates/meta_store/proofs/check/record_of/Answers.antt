use Rattle.std.proofs.Common.{◌≡◌, true, false, refl}
use Rattle.meta_store.proofs.CheckLemmas.{left_of_none, left_of_some}
use Rattle.meta_store.proofs.check.record_of.Goals as goal

pub returns-then-is_empty : goal.returns-then-is_empty
returns-then-is_empty c = left_of_none c.args.number c.args.rows.now.rows (c.if-is_empty.ensures.0 refl)

pub returns : goal.returns
returns c =
    left_of_some c.args.number c.args.rows.now.rows c.in_ok-begin.field-0 (λ none. let f : false ≡ true = c.if-is_empty.ensures.1 none in cc) c.in_ok-begin.ensures
