-- Rows of which none is bad.
use Rattle.std.specs.Prelude.{◌≡◌}
use Rattle.meta_rows.specs.Prelude.{Rows}
use Rattle.meta_log.specs.declared.slot.Super.{Super}
use Rattle.meta_log.specs.Prelude.{IsSuper, width_of}
use Rattle.unit_fields.specs.declared.width.Width.{Width}
use Rattle.store_image.specs.Prelude.{NoBadRow}

-- no row is bad, for the sizes of some superblock
pub record AreRowsOfAStore (rows : Rows) : Type 0 where
  pub sup : Super
  pub limits : IsSuper sup
  pub good : NoBadRow sup rows

-- so it is, and the store has checksums of this width
pub record AreRowsOfWidth (w : Width) (rows : Rows) : Type 0 where
  pub store : AreRowsOfAStore rows
  pub wide : width_of store.sup ≡ w
