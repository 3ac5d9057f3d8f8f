-- Shards as they are read from the values of their rows.
use Rattle.std.specs.Prelude.{◌≡◌, ℕ, List, [], ◌∷◌, ◌++◌}
use Rattle.std.specs.List.{flat_map, AllByRecursion}
use Rattle.unit_fields.specs.declared.width.Width.{Width}
use Rattle.row_format.specs.Prelude.{Extent, BeginsAt}
use Rattle.onode_codec.specs.Reading.{SpellExtents}
use Rattle.blob_map.specs.Prelude.{PageMap, HasNumbers, extent_pages, with_pages}

-- the value of the row of some shard
pub record IsShardValue (w : Width) (value : List ℕ) : Type 0 where
  pub page : ℕ
  pub extents : List Extent
  pub begins : BeginsAt page extents
  pub spelled : SpellExtents w value extents
  pub numbers : AllByRecursion HasNumbers extents

-- one shard more, behind the others: the value of its row spells its extents, its first page is theirs, and their pages are put in the map
pub record AddsShard (w : Width) (value firsts : List ℕ) (pages : PageMap) (firsts' : List ℕ) (pages' : PageMap) : Type 0 where
  pub page : ℕ
  pub own : List Extent
  pub begins : BeginsAt page own
  pub spelled : SpellExtents w value own
  pub firsts_are : firsts' ≡ firsts ++ page ∷ []
  pub pages_are : pages' ≡ with_pages pages (flat_map extent_pages own)
