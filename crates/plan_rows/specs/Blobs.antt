-- What becomes of shared blobs where pages leave their slots.
use Rattle.std.specs.Prelude.{◌≡◌, ℕ, zero, suc, ◌+◌, ◌-◌, ◌<◌, ◌≤◌, ◌^◌, ◌==◌, nat_lt, Bool, List, [], ◌∷◌, Option, Some, None, Any, if◌then◌else◌}
use Rattle.std.specs.List.{list_any}
use Rattle.std.specs.Int.{w32, from_le_bytes}
use Rattle.unit_fields.specs.declared.width.Width.{Width}
use Rattle.meta_rows.specs.Prelude.{Rows}
use Rattle.row_format.specs.Prelude.{shared_key, Slot, slots_read, blob, row_value}
use Rattle.store_image.specs.Prelude.{HasSlot}
use Rattle.plan_rows.specs.declared.plan.SlotNo.{SlotNo}

-- those of the slots that are the blob's, by their numbers in it
abbrev pub indexes_of : ℕ → List SlotNo → List ℕ
indexes_of sbid [] = []
indexes_of sbid (s ∷ ss) = if s.sbid == sbid then s.index ∷ indexes_of sbid ss else indexes_of sbid ss

-- how often a number stands among these
abbrev pub times_in : List ℕ → ℕ → ℕ
times_in [] index = 0
times_in (k ∷ ks) index = if k == index then 1 + times_in ks index else times_in ks index

-- a slot that one page less names; where none does any more it keeps no checksum
abbrev pub lowered : Slot → Slot
lowered x = record { csum = if nat_lt 1 x.count then x.csum else 0; count = x.count - 1 }

-- slots of which the one of this number is lowered, if they have it
abbrev pub with_one_less : List Slot → ℕ → List Slot
with_one_less [] index = []
with_one_less (x ∷ xs) zero = lowered x ∷ xs
with_one_less (x ∷ xs) (suc index) = x ∷ with_one_less xs index

-- and with these lowered, one after the other
abbrev pub with_less : List Slot → List ℕ → List Slot
with_less slots [] = slots
with_less slots (k ∷ ks) = with_less (with_one_less slots k) ks

-- whether pages name one of the slots
abbrev pub any_named : List Slot → Bool
any_named slots = list_any (λ x. nat_lt 0 x.count) slots

-- the value of a blob's row, if it is to have one: where no page names a slot there is none
abbrev pub blob_value : Width → ℕ → List Slot → Option (List ℕ)
blob_value w first slots = if any_named slots then Some (row_value w (blob 0 first slots)) else None

-- what becomes of the value of a blob's row where pages leave these of its slots: nothing, where they leave none
abbrev pub blob_after : Width → Option (List ℕ) → List ℕ → Option (List ℕ)
blob_after w value [] = value
blob_after w None (k ∷ ks) = None
blob_after w (Some value) (k ∷ ks) = blob_value w (from_le_bytes w32 value) (with_less (slots_read w value) (k ∷ ks))

-- the key is of the row of a blob that has one of the slots
pub record IsKeyOfSlot (slots : List SlotNo) (key : List ℕ) : Type 0 where
  pub sbid : ℕ
  pub small : sbid < 2 ^ 64
  pub among : Any (λ s. s.sbid ≡ sbid) slots
  pub is : key ≡ shared_key sbid

-- A slot is at the unit that pages named, and none does any more once they have left these.
pub record IsFreed (w : Width) (rows : Rows) (left : List SlotNo) (unit : ℕ) : Type 0 where
  pub sbid : ℕ
  pub index : ℕ
  pub is : Slot
  pub has_slot : HasSlot w rows sbid index unit is
  pub counted : 0 < is.count
  pub all_leave : is.count ≤ times_in (indexes_of sbid left) index
