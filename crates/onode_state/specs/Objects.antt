-- An object as its rows have it, and its shards as they are read.
use Rattle.std.specs.Prelude.{◌≡◌, ℕ, List, Option, Some, None}
use Rattle.std.specs.List.{flat_map, AllByRecursion}
use Rattle.std.specs.FinMap as finite
use Rattle.meta_rows.specs.Prelude.{Rows}
use Rattle.unit_fields.specs.Prelude.{Ascends}
use Rattle.unit_fields.specs.declared.width.Width.{Width}
use Rattle.row_format.specs.Prelude.{onode_key, shard_key, Extent}
use Rattle.store_image.specs.Prelude.{HasKey, HasOnode}
use Rattle.page_lookup.specs.Prelude.{HasNumber, FindPagesOf}
use Rattle.blob_map.specs.Prelude.{PageMap, extent_pages, with_pages}
use Rattle.object_rows.specs.Shards.{AreShards, AreShardsOf, extents_in, first_pages}
use Rattle.plan_rows.specs.Prelude.{Layout, HasLayout, or_empty, size_at}

-- the object's shards have these first pages, and their pages put in a map are these
pub record HasShards (w : Width) (rows : Rows) (c o : List ℕ) (firsts : List ℕ) (pages : PageMap) : Type 0 where
  pub shards : List (ℕ × List Extent)
  pub are : AreShardsOf w rows c o shards
  pub firsts_are : firsts ≡ first_pages shards
  pub pages_are : pages ≡ with_pages finite.empty (flat_map extent_pages (extents_in shards))

-- the object's onode says so many bytes, or it is missing
abbrev pub IsSizeAt : Rows → List ℕ → List ℕ → Option ℕ → Type 0
IsSizeAt rows c o None = finite.get rows (onode_key c o) ≡ None
IsSizeAt rows c o (Some size) = HasOnode rows c o size

-- the object is there with so many bytes, and its pages, in places whose numbers fit their fields, are found among these extents
pub record IsObjectFound (w : Width) (rows : Rows) (c o : List ℕ) (size : ℕ) (pages : List Extent) : Type 0 where
  pub has_size : HasOnode rows c o size
  pub are_pages : FindPagesOf w rows c o pages
  pub numbers : (page : ℕ) → HasNumber pages page

-- The object has so many bytes, or is missing, its pages stand where the map says, and its shards begin at these pages. A missing one has none.
pub record IsObjectState (w : Width) (rows : Rows) (c o : List ℕ) (size : Option ℕ) (pages : PageMap) (firsts : List ℕ) : Type 0 where
  pub layout : Option Layout
  pub has : HasLayout w rows c o layout
  pub size_is : size ≡ size_at layout
  pub pages_are : pages ≡ (or_empty layout).pages
  pub are_shards : AreShards rows c o firsts
  pub there : AllByRecursion (λ page. HasKey rows (shard_key c o page)) firsts
  pub in_order : Ascends firsts
