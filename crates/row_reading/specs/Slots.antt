-- Slots of a shared blob, and the value of its row, read from the front.
use Rattle.std.specs.Prelude.{◌≡◌, ◌≢◌, ℕ, ◌+◌, ◌*◌, ◌<◌, ◌≤◌, ◌^◌, List, ◌++◌, length, refl}
use Rattle.std.specs.Coded.{Coded, code_by, coded×, coded_ℕ}
use Rattle.std.specs.List.{flat_map, AllByRecursion}
use Rattle.std.specs.Int.{w16, w32, to_le_bytes}
use Rattle.unit_fields.specs.declared.width.Width.{Width}
use Rattle.unit_fields.specs.Prelude.{bytes_of}
use Rattle.row_format.specs.Prelude.{Slot, slot_bytes, FitsSlot}

-- a slot by its two numbers, as types that hold slots are coded
abbrev pub coded_slot : Coded Slot
coded_slot = code_by (ℕ × ℕ) (coded× coded_ℕ coded_ℕ) (λ x. (x.csum, x.count)) (λ p. record { csum = p.0; count = p.1 }) (λ _. refl)

-- so many slots have so many bytes
abbrev pub slots_size : Width → ℕ → ℕ
slots_size w count = bytes_of w count + 4 * count

-- a slot was read
pub record ReadsSlot (w : Width) (old new : List ℕ) (x : Slot) : Type 0 where
  pub fits : FitsSlot w x
  pub spelled : old ≡ slot_bytes w x ++ new

-- so many of them were
pub record ReadsSlots (w : Width) (count : ℕ) (old new : List ℕ) (xs : List Slot) : Type 0 where
  pub size : length xs ≡ count
  pub fit : AllByRecursion (FitsSlot w) xs
  pub spelled : old ≡ flat_map (slot_bytes w) xs ++ new

-- the first unit and a number of slots, 1 to 256, stand at the front
pub record IsRun (first count : ℕ) : Type 0 where
  pub unit : first < 2 ^ 32
  pub some : 0 < count
  pub few : count ≤ 256

-- they were read
pub record ReadsRun (old new : List ℕ) (first count : ℕ) : Type 0 where
  pub run : IsRun first count
  pub spelled : old ≡ to_le_bytes w32 first ++ (to_le_bytes w16 count ++ new)

-- none stand there
abbrev pub BeginsWithNoRun : List ℕ → Type 0
BeginsWithNoRun bytes = (first count : ℕ) (rest : List ℕ) → IsRun first count → bytes ≢ to_le_bytes w32 first ++ (to_le_bytes w16 count ++ rest)
