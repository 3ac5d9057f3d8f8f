-- What is kept of the rows and of the free units, whatever is under way.
use Rattle.std.specs.Prelude.{◌≡◌, ◌+◌, length}
use Rattle.meta_log.specs.declared.slot.Super.{Super}
use Rattle.meta_log.specs.Prelude.{data_unit, width_of}
use Rattle.plan_rows.specs.Prelude.{IsGood}
use Rattle.unit_allocator.specs.Prelude.{Space}
use Rattle.store_steps.specs.Prelude.{rows_by, EachIsPlanned, AreTakenApart, HaveHomes, AreBlobsBelow, SpaceIsCounted, HoldsAreCounted, RowsPart}

-- the data units are those of the allocator
pub record IsSpaceOf (sup : Super) (space : Space) : Type 0 where
  pub first : space.first ≡ data_unit sup
  pub count : data_unit sup + length space.idle ≡ sup.units

-- The submitted rows are the committed ones with all transactions under way. The committed ones are good; each of these was planned over the rows
-- that it may come to stand on, what they took was taken once, and all other data units whose bits are 0 in the committed rows are idle. Each is
-- held by as many as the submitted rows say. Each blob has a home, and a number below the next one.
pub record AreRowsKept (p : RowsPart) : Type 0 where
  pub submitted : p.submitted ≡ rows_by p.rows p.intents
  pub good : IsGood p.sup p.rows
  pub planned : EachIsPlanned p.sup p.rows p.intents
  pub apart : AreTakenApart p.rows p.intents
  pub counted : SpaceIsCounted p.sup p.rows p.intents p.space
  pub held : HoldsAreCounted p.sup p.submitted p.space
  pub homes : HaveHomes (width_of p.sup) p.rows p.intents
  pub blobs : AreBlobsBelow p.next p.rows p.intents
