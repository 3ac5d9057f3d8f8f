-- Shared blobs: consecutive units on which pages of several objects stand.
use Rattle.std.specs.Prelude.{ℕ, zero, suc, ◌+◌, ◌<◌, ◌^◌, List, [], ◌∷◌, ◌++◌, drop}
use Rattle.std.specs.Int.{w16, w32, to_le_bytes, from_le_bytes}
use Rattle.unit_fields.specs.declared.width.Width.{Width}
use Rattle.unit_fields.specs.Prelude.{bytes_of}
use Rattle.row_format.specs.Csums.{csum_bytes, csum_in, FitsCsum}

-- a slot, of one unit: the checksum that is kept for it, and how many pages name it
pub record Slot : Type 0 where
  pub csum : ℕ
  pub count : ℕ

-- its spelling
abbrev pub slot_bytes : Width → Slot → List ℕ
slot_bytes w x = csum_bytes w x.csum ++ to_le_bytes w32 x.count

-- it has a spelling
abbrev pub FitsSlot : Width → Slot → Type 0
FitsSlot w x = FitsCsum w x.csum × (x.count < 2 ^ 32)

-- ---- reading

-- the slot in the first bytes
abbrev pub slot_in : Width → List ℕ → Slot
slot_in w bytes = record { csum = csum_in w bytes; count = from_le_bytes w32 (drop (bytes_of w 1) bytes) }

-- so many slots, one behind the other
abbrev pub slots_in : Width → ℕ → List ℕ → List Slot
slots_in w zero bytes = []
slots_in w (suc n) bytes = slot_in w bytes ∷ slots_in w n (drop (bytes_of w 1 + 4) bytes)

-- those of a blob's row, behind its first unit and their number
unfoldable pub slots_read : Width → List ℕ → List Slot
slots_read w bytes = slots_in w (from_le_bytes w16 (drop 4 bytes)) (drop 6 bytes)
