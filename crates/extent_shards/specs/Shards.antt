-- An object's extents cut into shards, each of which stands in a row of its own, and shards joined to a page map.
use Rattle.std.specs.Prelude.{◌≡◌, ◌⊎◌, ℕ, ◌==◌, nat_le, Bool, true, List, [], ◌∷◌, ◌++◌, length, Option, Some, None, if◌then◌else◌}
use Rattle.std.specs.List.{flat_map}
use Rattle.std.specs.FinMap as finite
use Rattle.unit_fields.specs.declared.width.Width.{Width}
use Rattle.row_format.specs.Prelude.{Extent, extent_bytes}
use Rattle.blob_map.specs.Prelude.{PageMap, extent_pages, with_pages}

-- the value of a shard's row: the spellings of its extents
abbrev pub shard_bytes : Width → List Extent → List ℕ
shard_bytes w shard = flat_map (extent_bytes w) shard

-- so many bytes are within a bound, if there is one
abbrev pub is_within : Option ℕ → ℕ → Bool
is_within None count = true
is_within (Some bound) count = nat_le count bound

-- The shards of a shard and of the extents behind it: an extent joins the shard where the shard's bytes stay within the bound, else it begins
-- the next one.
abbrev pub shards_from : Width → Option ℕ → List Extent → List Extent → List (List Extent)
shards_from w bound shard [] = shard ∷ []
shards_from w bound shard (e ∷ es) = if is_within bound (length (shard_bytes w (shard ++ e ∷ [])))
    then shards_from w bound (shard ++ e ∷ []) es
    else shard ∷ shards_from w bound (e ∷ []) es

-- the shards of extents
abbrev pub shards_of : Width → Option ℕ → List Extent → List (List Extent)
shards_of w bound [] = []
shards_of w bound (e ∷ es) = shards_from w bound (e ∷ []) es

-- the bound of the shards that a store writes
abbrev pub shard_limit : ℕ
shard_limit = 1200

-- the page where a shard begins
abbrev pub first_of : List Extent → ℕ
first_of [] = 0
first_of (e ∷ es) = e.first

-- the shard that begins at a page, if one does
abbrev pub shard_at : List (List Extent) → ℕ → Option (List Extent)
shard_at [] page = None
shard_at (shard ∷ shards) page = if first_of shard == page then Some shard else shard_at shards page

-- a shard's bytes are within the bound, or it has one extent alone
abbrev pub IsBounded : Width → Option ℕ → List Extent → Type 0
IsBounded w bound shard = (is_within bound (length (shard_bytes w shard)) ≡ true) ⊎ (length shard ≡ 1)

-- the extents of shards, one shard's behind the other's
abbrev pub joined_extents : List (List Extent) → List Extent
joined_extents shards = flat_map (λ shard. shard) shards

-- the map in which their pages stand
abbrev pub joined_map : List (List Extent) → PageMap
joined_map shards = with_pages finite.empty (flat_map extent_pages (joined_extents shards))
