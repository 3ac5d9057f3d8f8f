-- The two superblock slots.
use Rattle.std.specs.Prelude.{◌≡◌, ℕ, ◌+◌, ◌-◌, ◌*◌, ◌%◌, ◌^◌, ◌<◌, ◌≤◌, List, [], ◌∷◌, ◌++◌, length}
use Rattle.std.specs.Int.{w32, w64, to_le_bytes}
use Rattle.byte_maps.specs.Units.{unit_at, zeros}
use Rattle.unit_fields.specs.declared.width.Width.{Width}
use Rattle.unit_fields.specs.declared.width.Width.TheVariants.{FourBytes}
use Rattle.crc32c_csum.specs.Prelude.{crc32c}
use Rattle.meta_log.specs.declared.slot.Super.{Super}

-- "BSTORE01"
abbrev pub magic : List ℕ
magic = 0x42 ∷ 0x53 ∷ 0x54 ∷ 0x4f ∷ 0x52 ∷ 0x45 ∷ 0x30 ∷ 0x31 ∷ []

-- the magic, and version 1
abbrev pub version_bytes : List ℕ
version_bytes = magic ++ to_le_bytes w32 1

-- the fields, one behind the other
abbrev pub super_field_bytes : Super → List ℕ
super_field_bytes s = to_le_bytes w32 s.units ++ to_le_bytes w32 s.half ++ to_le_bytes w32 s.prefer ++ to_le_bytes w64 s.epoch ++ to_le_bytes w64 s.first

-- the first 40 bytes of a slot
abbrev pub super_front : Super → List ℕ
super_front s = version_bytes ++ super_field_bytes s

-- the slot but for its checksum: its front, and zeros
abbrev pub super_fields : Super → List ℕ
super_fields s = super_front s ++ zeros 4052

-- bytes with their checksum behind them
abbrev pub with_sum : List ℕ → List ℕ
with_sum bytes = bytes ++ to_le_bytes w32 (crc32c bytes)

-- a unit that is these bytes and their checksum
pub record IsSummed (body unit : List ℕ) : Type 0 where
  pub size : length body ≡ 4092
  pub spelled : unit ≡ with_sum body

-- the one spelling of a super, one unit
abbrev pub super_bytes : Super → List ℕ
super_bytes s = with_sum (super_fields s)

-- the limits of a store
pub record IsSuper (s : Super) : Type 0 where
  pub units_most : s.units ≤ 1048576
  pub half_least : 8 ≤ s.half
  pub half_most : s.half ≤ 65536
  pub room : 2 * s.half + 3 ≤ s.units
  pub prefer_most : s.prefer ≤ 1048576
  pub epoch_below : s.epoch < 2 ^ 62
  pub first_below : s.first < 2 ^ 62

-- these bytes in slot number `at` hold this super, whatever the device's size
pub record IsSlotOf (at : ℕ) (bytes : List ℕ) (s : Super) : Type 0 where
  pub spelled : bytes ≡ super_bytes s
  pub limits : IsSuper s
  pub own_epoch : s.epoch % 2 ≡ at

-- slot number `at` of the image is valid, and holds this super
pub record IsValidSlot (image : List ℕ) (at : ℕ) (s : Super) : Type 0 where
  pub holds : IsSlotOf at (unit_at at image) s
  pub same_size : length image ≡ 4096 * s.units

-- the valid slot of greatest epoch
pub record IsActiveSlot (image : List ℕ) (s : Super) : Type 0 where
  pub here : IsValidSlot image (s.epoch % 2) s
  pub greatest : (at : ℕ) (other : Super) → at < 2 → IsValidSlot image at other → other.epoch ≤ s.epoch

-- the first unit of a half of the log
abbrev pub half_unit : Super → ℕ → ℕ
half_unit s half = 2 + s.half * half

-- the first unit of the half that is in use
abbrev pub active_unit : Super → ℕ
active_unit s = half_unit s (s.epoch % 2)

-- the number of the slot that isn't in use
abbrev pub other_slot : Super → ℕ
other_slot s = 1 - s.epoch % 2

-- the first unit of the half that isn't in use
abbrev pub other_unit : Super → ℕ
other_unit s = 2 + s.half * other_slot s

-- The superblock that a checkpoint brings: the next epoch, so the other slot and the other half, whose first record has this number.
abbrev pub next_super : Super → ℕ → Super
next_super s number = record s { epoch = s.epoch + 1; first = number }

-- the first data unit
abbrev pub data_unit : Super → ℕ
data_unit s = 2 + 2 * s.half

-- how wide the checksums of pages are in the store's rows: four bytes in each store so far
abbrev pub width_of : Super → Width
width_of s = FourBytes
