-- Where the pages of a map are cut.
use Rattle.std.specs.Prelude.{◌≡◌, ℕ, ◌-◌, ◌<◌, ◌≤◌, ◌^◌, ◌==◌, if◌then◌else◌, List, ◌∷◌, ◌++◌, length, take, drop, Option}
use Rattle.unit_fields.specs.declared.width.Width.{Width}
use Rattle.row_format.specs.Prelude.{Extent, Place, extent_bytes}
use Rattle.onode_codec.specs.declared.extent.Head.{Head}
use Rattle.blob_map.specs.Prelude.{extents_of}
use Rattle.extent_shards.specs.declared.pushing.Front.{Front}
use Rattle.extent_shards.specs.Shards.{shard_bytes, shards_of, first_of}
use Rattle.extent_shards.specs.Values.{extent_with, run_size, csums_of, IsFirstRun}

-- the bytes that a shard takes with so many pages in so many bytes: its first extent may have more than the bound
abbrev pub room_behind : ℕ → ℕ → ℕ → ℕ
room_behind bound count bytes = if count == 0 then 2 ^ 64 - 1 else bound - bytes

-- the first of the pages' extents has more bytes than there is room for, and isn't written
pub record LacksRoom (w : Width) (ps : List (ℕ × Place)) (room : ℕ) (old new : List ℕ) : Type 0 where
  pub head : Head
  pub run : IsFirstRun ps head
  pub more : room < run_size w head.start head.count
  pub few : run_size w head.start head.count ≤ 1035
  pub same : new ≡ old

-- the first of them, so many pages in so many bytes, is written behind what was there
pub record WritesRun (w : Width) (ps : List (ℕ × Place)) (room pages bytes : ℕ) (old new : List ℕ) : Type 0 where
  pub head : Head
  pub run : IsFirstRun ps head
  pub pages_are : pages ≡ head.count
  pub bytes_are : bytes ≡ run_size w head.start head.count
  pub within : bytes ≤ room
  pub few : bytes ≤ 1035
  pub written : new ≡ old ++ extent_bytes w (extent_with head (csums_of (take head.count ps)))

-- The first pages, so many of them, have the extents of the first shard, and those behind them have the others. That shard's value is written
-- behind what was there.
pub record WritesFront (w : Width) (bound : Option ℕ) (ps : List (ℕ × Place)) (count : ℕ) (old new : List ℕ) : Type 0 where
  pub some : 0 < count
  pub within : count ≤ length ps
  pub first : shards_of w bound (extents_of ps) ≡ extents_of (take count ps) ∷ shards_of w bound (extents_of (drop count ps))
  pub written : new ≡ old ++ shard_bytes w (extents_of (take count ps))

-- The first shard begins at this page and has so many of them, and its value is written behind what was there.
pub record WritesShard (w : Width) (bound : Option ℕ) (ps : List (ℕ × Place)) (front : Front) (old new : List ℕ) : Type 0 where
  pub some : 0 < front.count
  pub within : front.count ≤ length ps
  pub shard : List Extent
  pub begins : first_of shard ≡ front.first
  pub first : shards_of w bound (extents_of ps) ≡ shard ∷ shards_of w bound (extents_of (drop front.count ps))
  pub written : new ≡ old ++ shard_bytes w shard
