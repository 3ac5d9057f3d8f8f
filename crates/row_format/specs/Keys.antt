-- The keys of all rows. Byte order of keys is the order of what they name, so numbers in keys are big-endian.
use Rattle.std.specs.Prelude.{ℕ, List, [], ◌∷◌, ◌++◌}
use Rattle.std.specs.Int.{w32, w64, to_be_bytes}

-- a kind, the names of a collection and of an object in it, each ended by a zero, and what stands behind
abbrev pub object_key : ℕ → List ℕ → List ℕ → List ℕ → List ℕ
object_key kind c o rest = kind ∷ (c ++ 0 ∷ (o ++ 0 ∷ rest))

-- "C": a collection
abbrev pub coll_key : List ℕ → List ℕ
coll_key c = 0x43 ∷ c

-- "O", "o": an object's onode
abbrev pub onode_key : List ℕ → List ℕ → List ℕ
onode_key c o = object_key 0x4f c o (0x6f ∷ [])

-- "O", "o", a page, "x": the shard of the object's extents that begins at the page
abbrev pub shard_key : List ℕ → List ℕ → ℕ → List ℕ
shard_key c o page = object_key 0x4f c o (0x6f ∷ to_be_bytes w32 page ++ 0x78 ∷ [])

-- "A": an attribute
abbrev pub attr_key : List ℕ → List ℕ → List ℕ → List ℕ
attr_key c o name = object_key 0x41 c o name

-- "M", "-": an object's omap header
abbrev pub header_key : List ℕ → List ℕ → List ℕ
header_key c o = object_key 0x4d c o (0x2d ∷ [])

-- "M", ".": a pair of an object's omap
abbrev pub omap_key : List ℕ → List ℕ → List ℕ → List ℕ
omap_key c o key = object_key 0x4d c o (0x2e ∷ key)

-- "L": a deferred write, by its sequence number
abbrev pub deferred_key : ℕ → List ℕ
deferred_key seq = 0x4c ∷ to_be_bytes w64 seq

-- "X": a shared blob, by its number
abbrev pub shared_key : ℕ → List ℕ
shared_key sbid = 0x58 ∷ to_be_bytes w64 sbid

-- "b": 128 units of the freelist
abbrev pub bitmap_key : ℕ → List ℕ
bitmap_key r = 0x62 ∷ to_be_bytes w32 r
