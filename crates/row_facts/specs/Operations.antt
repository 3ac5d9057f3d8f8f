-- The making of a collection, and the operation that puts a row in.
use Rattle.std.specs.Prelude.{ℕ, List, [], ◌∷◌}
use Rattle.std.specs.Int.{w64, to_le_bytes}
use Rattle.unit_fields.specs.declared.width.Width.{Width}
use Rattle.meta_rows.specs.declared.row_op.RowOp.{RowOp}
use Rattle.meta_rows.specs.declared.row_op.RowOp.TheVariants.{Set}
use Rattle.object_model.specs.declared.op.Op.TheVariants.{MkColl}
use Rattle.object_model.specs.Prelude.{Change}
use Rattle.row_format.specs.Prelude.{coll_key, onode_key, Row, row_key, row_value}

-- the transaction that makes a collection
abbrev pub coll_change : List ℕ → Change
coll_change c = record { coll = c; ops = MkColl ∷ [] }

-- the operation that puts a row in, with checksums of this width, or replaces one under its key
abbrev pub set_row : Width → Row → RowOp
set_row w row = Set (row_key row) (row_value w row)

-- the operation that puts an object's onode in, or replaces it
abbrev pub set_onode : List ℕ → List ℕ → ℕ → RowOp
set_onode c o size = Set (onode_key c o) (to_le_bytes w64 size)

-- the collection's row
abbrev pub coll_ops : List ℕ → List RowOp
coll_ops c = Set (coll_key c) [] ∷ []
