-- The extents that bytes spell, read from the front. Whatever the bytes are, some are read.
use Rattle.std.specs.Prelude.{ℕ, zero, suc, ◌+◌, ◌==◌, nat_lt, Bool, List, [], ◌∷◌, length, drop, slice_index, if◌then◌else◌}
use Rattle.std.specs.Int.{w16, w32, w64, from_le_bytes}
use Rattle.unit_fields.specs.declared.width.Width.{Width}
use Rattle.unit_fields.specs.Prelude.{bytes_of}
use Rattle.row_format.specs.Extents.{Body, Extent, private, shared}
use Rattle.row_format.specs.Csums.{csum_in}

-- the first page of the extent at the front
unfoldable pub first_in : List ℕ → ℕ
first_in bytes = from_le_bytes w32 bytes

-- how many pages it has
unfoldable pub count_in : List ℕ → ℕ
count_in bytes = from_le_bytes w16 (drop 4 bytes)

-- whether they stand on slots of a shared blob
unfoldable pub is_shared_in : List ℕ → Bool
is_shared_in bytes = slice_index (drop 6 bytes) 0 == 1

-- the unit of the first one
unfoldable pub unit_in : List ℕ → ℕ
unit_in bytes = from_le_bytes w32 (drop 7 bytes)

-- or the blob's number, and the slot of the first one
unfoldable pub sbid_in : List ℕ → ℕ
sbid_in bytes = from_le_bytes w64 (drop 7 bytes)

unfoldable pub slot_number_in : List ℕ → ℕ
slot_number_in bytes = from_le_bytes w16 (drop 15 bytes)

-- so many checksums, one behind the other
abbrev pub csums_in : Width → ℕ → List ℕ → List ℕ
csums_in w zero bytes = []
csums_in w (suc n) bytes = csum_in w bytes ∷ csums_in w n (drop (bytes_of w 1) bytes)

-- the bytes of the extent at the front: its head, and a checksum for each page of the object's own
abbrev pub size_in : Width → List ℕ → ℕ
size_in w bytes = if is_shared_in bytes then 17 else 11 + bytes_of w (count_in bytes)

-- where its pages stand
abbrev pub body_in : Width → List ℕ → Body
body_in w bytes = if is_shared_in bytes
    then shared (sbid_in bytes) (slot_number_in bytes) (count_in bytes)
    else private (unit_in bytes) (csums_in w (count_in bytes) (drop 11 bytes))

-- the extent at the front, where it is whole
abbrev pub extent_in : Width → List ℕ → Extent
extent_in w bytes = record { first = first_in bytes; body = body_in w bytes }

-- at most so many extents, up to where none is whole
abbrev pub extents_by : Width → ℕ → List ℕ → List Extent
extents_by w zero bytes = []
extents_by w (suc n) bytes =
    if nat_lt (length bytes) (size_in w bytes) then [] else extent_in w bytes ∷ extents_by w n (drop (size_in w bytes) bytes)

-- all of them
unfoldable pub extents_read : Width → List ℕ → List Extent
extents_read w bytes = extents_by w (length bytes) bytes
