-- The rows of an object that gets another layout.
use Rattle.std.specs.Prelude.{◌≡◌, ℕ, ◌<◌, ◌^◌, List, Option, Some}
use Rattle.std.specs.Option.{option_map}
use Rattle.std.specs.Int.{w64, to_le_bytes}
use Rattle.std.specs.FinMap as finite
use Rattle.unit_fields.specs.declared.width.Width.{Width}
use Rattle.meta_rows.specs.Prelude.{Rows}
use Rattle.row_format.specs.Prelude.{onode_key, shard_key}
use Rattle.blob_map.specs.Prelude.{PageMap, extents_of}
use Rattle.extent_shards.specs.Prelude.{shard_bytes, shards_of, shard_limit, shard_at}
pub use Rattle.plan_rows.specs.Layouts.{IsSizeOf, missing, there, IsMapOf, Layout, HasLayout, or_empty, IsKeyOf, size_at, extents_at, TurnsBits}

-- The rows of an object's shards are those of the map, cut with the bound: at each page that of the shard which begins there, or none.
abbrev pub AreCut : Width → Rows → List ℕ → List ℕ → PageMap → Type 0
AreCut w after c o pages = (page : ℕ) → page < 2 ^ 32 → finite.get after (shard_key c o page)
    ≡ option_map (shard_bytes w) (shard_at (shards_of w (Some shard_limit) (extents_of (finite.entries pages))) page)

-- The shards of an object whose pages stood as the first map says and stand as the second says: as they were where these are the same, and else
-- cut anew.
pub data GetsShards (w : Width) (rows after : Rows) (c o : List ℕ) (x y : PageMap) : Type 0 where
  stay : x ≡ y → ((page : ℕ) → page < 2 ^ 32 → finite.get after (shard_key c o page) ≡ finite.get rows (shard_key c o page))
      → GetsShards w rows after c o x y
  cut : ¬ (x ≡ y) → AreCut w after c o y → GetsShards w rows after c o x y

-- The rows of an object that had the first layout and has the second: its onode says how long it is, or there is none, and its shards go by the
-- maps alone.
pub record GetsLayout (w : Width) (rows after : Rows) (c o : List ℕ) (x y : Option Layout) : Type 0 where
  pub onode : finite.get after (onode_key c o) ≡ option_map (to_le_bytes w64) (size_at y)
  pub shards : GetsShards w rows after c o (or_empty x).pages (or_empty y).pages
