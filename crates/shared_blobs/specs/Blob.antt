-- Shared blobs by what their rows say, and what becomes of them where pages come to their slots and leave them.
use Rattle.std.specs.Prelude.{◌≡◌, ℕ, zero, suc, ◌+◌, ◌-◌, ◌<◌, ◌≤◌, ◌^◌, ◌==◌, if◌then◌else◌, List, [], ◌∷◌, length, Option, Some, None, slice_get, refl}
use Rattle.std.specs.Option.{option_map_or}
use Rattle.std.specs.Coded.{Coded, code_by, coded×, coded_ℕ, coded_list}
use Rattle.std.specs.Int.{w32, from_le_bytes}
use Rattle.unit_fields.specs.declared.width.Width.{Width}
use Rattle.row_format.specs.Prelude.{Slot, slots_read, blob, row_value, FitsBlob}
use Rattle.row_reading.specs.Slots.{coded_slot}
use Rattle.row_reading.specs.declared.row.Row.{Row}
use Rattle.row_reading.specs.declared.row.Row.TheVariants as rows
use Rattle.plan_rows.specs.Prelude.{with_less}

-- the first of its units, and its slots
pub record Blob : Type 0 where
  pub first : ℕ
  pub slots : List Slot

abbrev pub coded_blob : Coded Blob
coded_blob = code_by (ℕ × List Slot) (coded× coded_ℕ (coded_list coded_slot)) (λ b. (b.first, b.slots)) (λ p. record { first = p.0; slots = p.1 }) (λ _. refl)

-- ---- values of rows

-- the value says this blob, with checksums of this width
pub record SpellsBlob (w : Width) (value : List ℕ) (b : Blob) : Type 0 where
  pub fits : FitsBlob w 0 b.first b.slots
  pub is : value ≡ row_value w (blob 0 b.first b.slots)

abbrev pub IsNoBlob : Width → List ℕ → Type 0
IsNoBlob w value = (b : Blob) → ¬ SpellsBlob w value b

-- the blob of a row, if there is one, where pages have left these of its slots
abbrev pub blob_now : Width → Option (List ℕ) → List ℕ → Option Blob
blob_now w None ks = None
blob_now w (Some value) ks = Some (record { first = from_le_bytes w32 value; slots = with_less (slots_read w value) ks })

-- a row that was read is a blob's, which has at most 256 slots
abbrev pub SaysBlob : Row → Type 0
SaysBlob (rows.Blob sbid first slots) = length slots ≤ 256
SaysBlob row = ⊥

-- what it says
abbrev pub said : Row → Blob
said (rows.Blob sbid first slots) = record { first = first; slots = slots }
said row = record { first = 0; slots = [] }

-- ---- slots

-- all its units have numbers that fit their field
abbrev pub HasUnits : Blob → Type 0
HasUnits b = b.first + length b.slots ≤ 2 ^ 32

-- a slot that one page names
abbrev pub named_once : ℕ → Slot
named_once csum = record { csum = csum; count = 1 }

-- one that one page more names
abbrev pub raised : Slot → Slot
raised x = record { csum = x.csum; count = x.count + 1 }

-- slots of which the one of this number is raised
abbrev pub with_one_more : List Slot → ℕ → List Slot
with_one_more [] index = []
with_one_more (x ∷ xs) zero = raised x ∷ xs
with_one_more (x ∷ xs) (suc index) = x ∷ with_one_more xs index

-- the count of this slot can grow
abbrev pub CanRaise : List Slot → ℕ → Type 0
CanRaise slots index = (x : Slot) → slice_get slots index ≡ Some x → x.count < 2 ^ 32 - 1

-- the unit of the slot of this number, where one page alone names it
abbrev pub freed_by : Blob → ℕ → Option ℕ
freed_by b index = option_map_or (λ (x : Slot). if x.count == 1 then Some (b.first + index) else None) (slice_get b.slots index) None
