use Rattle.std.proofs.Common.{◌≡◌, ℕ, [], None, drop}
use Rattle.std.specs.declared.cmp.Ordering.TheVariants.{Less}
use Rattle.byte_maps.specs.ByteMap.{byte_order}
use Rattle.meta_rows.specs.Prelude.{rows_from_to}
use Rattle.store_image.specs.Prelude.{IsBadRow}
use Rattle.ordered_lists.specs.Lists.{ListsAll}
use Rattle.row_check.specs.Bad.{Knows}
use Rattle.row_check.proofs.Walk.{InFirst}
use Rattle.row_check.proofs.bad.bad_rows.Given as goal

abbrev pub invariant-loop-key : goal.invariant-loop-key
invariant-loop-key l = record {
  can_next : (goal.iterator-loop-key).can_next l.key-iterator;
  finite : (goal.iterator-loop-key).is_finite l.key-iterator;
  at : ℕ;
  left : l.key-iterator ≡ drop at (rows_from_to l.fn.rows.rows [] None);
  knows : Knows l.fn.sup l.fn.rows.rows (InFirst (rows_from_to l.fn.rows.rows [] None) at) l.passed;
  bad : ListsAll (λ a b. byte_order a b ≡ Less) (λ n. IsBadRow l.fn.sup l.fn.rows.rows n × InFirst (rows_from_to l.fn.rows.rows [] None) at n) l.bad;
}
