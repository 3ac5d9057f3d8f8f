-- The operations that turn rows into others.
use Rattle.std.specs.Prelude.{◌≡◌, List, Some}
use Rattle.std.specs.List.{AllByRecursion}
use Rattle.std.specs.FinMap as finite
use Rattle.std.specs.declared.cmp.Ordering.TheVariants.{Less}
use Rattle.ordered_lists.specs.Lists.{Ascend}
use Rattle.byte_maps.specs.ByteMap.{byte_order}
use Rattle.meta_rows.specs.Prelude.{Rows, rows_after, key_of}
use Rattle.meta_rows.specs.declared.row_op.RowOp.{RowOp}
use Rattle.meta_rows.specs.declared.row_op.RowOp.TheVariants.{Set, Drop, Flip}
use Rattle.store_image.specs.Prelude.{HasKey}

-- The operation changes these rows: it sets a value that they don't have, or drops a row that they have. (One that turns bits has no place
-- in a difference.)
abbrev pub Changes : Rows → RowOp → Type 0
Changes rows (Set key value) = ¬ (finite.get rows key ≡ Some value)
Changes rows (Drop key) = HasKey rows key
Changes rows (Flip key mask) = ⊥

-- each operation's key is above those before it
abbrev pub KeysAscend : List RowOp → Type 0
KeysAscend ops = Ascend (λ op later. byte_order (key_of op) (key_of later) ≡ Less) ops

-- The difference between rows and others: operations that turn the one into the other, in the order of their keys, none of which could be
-- left out.
pub record IsDifference (before after : Rows) (ops : List RowOp) : Type 0 where
  pub in_order : KeysAscend ops
  pub changes : AllByRecursion (Changes before) ops
  pub makes : rows_after before ops ≡ after
