-- An object's shards, as its rows say them.
use Rattle.std.specs.Prelude.{ℕ, ◌<◌, ◌^◌, List, [], ◌∷◌, map, Contains}
use Rattle.std.specs.List.{flat_map, AllByRecursion}
use Rattle.ordered_lists.specs.Lists.{Ascend}
use Rattle.meta_rows.specs.Prelude.{Rows}
use Rattle.unit_fields.specs.declared.width.Width.{Width}
use Rattle.row_format.specs.Prelude.{Extent, shard_key}
use Rattle.store_image.specs.Prelude.{HasKey, HasShard}

-- each begins behind the one before
abbrev pub ShardsAscend : List (ℕ × List Extent) → Type 0
ShardsAscend shards = Ascend (λ x later. x.0 < later.0) shards

-- the object's shards, all of them: the first page of each, and its extents
pub record AreShardsOf (w : Width) (rows : Rows) (c o : List ℕ) (shards : List (ℕ × List Extent)) : Type 0 where
  pub there : AllByRecursion (λ x. HasShard w rows c o x.0 x.1) shards
  pub all : (page : ℕ) (es : List Extent) → HasShard w rows c o page es → Contains shards (page, es)
  pub rise : ShardsAscend shards

-- their extents, one shard's behind the other's
abbrev pub extents_in : List (ℕ × List Extent) → List Extent
extents_in shards = flat_map (λ x. x.1) shards

-- their first pages
abbrev pub first_pages : List (ℕ × List Extent) → List ℕ
first_pages shards = map (λ x. x.0) shards

-- the first pages of the object's shards
pub record AreShards (rows : Rows) (c o : List ℕ) (present : List ℕ) : Type 0 where
  pub below : AllByRecursion (λ page. page < 2 ^ 32) present
  pub all : (page : ℕ) → page < 2 ^ 32 → HasKey rows (shard_key c o page) → Contains present page
