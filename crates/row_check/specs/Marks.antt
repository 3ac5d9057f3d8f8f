-- Marks at units: a first one where a page stands, and a second one where another page does too.
use Rattle.std.specs.Prelude.{◌≡◌, ℕ, zero, suc, ◌+◌, ◌≤◌, ◌||◌, nat_lt, cond, Bool, true, false, Option, Some, List, [], ◌∷◌, ◌++◌, length, replicate, slice_index_or, slice_set, refl}
use Rattle.std.specs.List.{AllByRecursion}
use Rattle.std.specs.Coded.{Coded, code_by, coded×, coded_list, coded_bool}
use Rattle.unit_fields.specs.declared.width.Width.{Width}
use Rattle.row_format.specs.Prelude.{Body, private, shared, Extent, extent_bytes, FitsExtent, Slot}
use Rattle.row_format.specs.Row as format
use Rattle.row_reading.specs.declared.row.Row as read
use Rattle.row_reading.specs.declared.row.Row.TheVariants as variants
use Rattle.onode_codec.specs.Reading.{ReadsExtent, SpellExtents}

-- the first and the second mark of each unit
pub record Marks : Type 0 where
  pub owned : List Bool
  pub shared : List Bool

-- the marks as a tuple, which a `Model` asks for
abbrev pub coded_marks : Coded Marks
coded_marks = code_by (List Bool × List Bool) (coded× (coded_list coded_bool) (coded_list coded_bool))
    (λ m. (m.owned, m.shared)) (λ p. record { owned = p.0; shared = p.1 }) (λ _. refl)

abbrev pub no_marks : ℕ → Marks
no_marks units = record { owned = replicate units false; shared = replicate units false }

-- one page more stands on the unit
abbrev pub one_page_more : Marks → ℕ → Marks
one_page_more m unit = record {
  owned = slice_set m.owned unit true;
  shared = slice_set m.shared unit (slice_index_or m.owned unit false || slice_index_or m.shared unit false);
}

-- so many pages more stand on consecutive units
abbrev pub run_marked : Marks → ℕ → ℕ → Marks
run_marked m unit zero = m
run_marked m unit (suc n) = one_page_more (run_marked m unit n) (unit + n)

-- (Pages on slots are none of these: the slots are marked, by their blob's row.)
abbrev pub body_marked : Marks → Body → Marks
body_marked m (private unit csums) = run_marked m unit (length csums)
body_marked m (shared sbid first count) = m

-- the pages of these extents stand on their units
abbrev pub extents_marked : Marks → List Extent → Marks
extents_marked m [] = m
extents_marked m (e ∷ es) = extents_marked (body_marked m e.body) es

-- the slot on the unit is named, if its count says so
abbrev pub slot_marked : Marks → ℕ → Slot → Marks
slot_marked m unit x = cond (nat_lt 0 x.count) (one_page_more m unit) m

-- the same of slots on consecutive units
abbrev pub slots_marked : Marks → ℕ → List Slot → Marks
slots_marked m unit [] = m
slots_marked m unit (x ∷ xs) = slots_marked (slot_marked m unit x) (suc unit) xs

-- what a row says of a blob: nothing, where it is none's
pub record BlobRow : Type 0 where
  pub sbid : ℕ
  pub first : ℕ
  pub slots : List Slot

abbrev pub no_blob : BlobRow
no_blob = record { sbid = 0; first = 0; slots = [] }

abbrev pub blob_in : format.Row → BlobRow
blob_in (format.blob sbid first slots) = record { sbid = sbid; first = first; slots = slots }
blob_in _ = no_blob

-- the same of a row's pages, if it is a shard, or of its slots, if it is a blob's
abbrev pub row_marked : Marks → format.Row → Marks
row_marked m row = slots_marked (extents_marked m (format.shard_in row).extents) (blob_in row).first (blob_in row).slots

-- a row was read: the slots are marked, if it is a blob's
abbrev pub AddsMarks : Option read.Row → Marks → Marks → Type 0
AddsMarks (Some (variants.Blob sbid first slots)) old new = new ≡ slots_marked old first slots
AddsMarks _ old new = new ≡ old

-- and there are marks for its units
abbrev pub EndsBlobBy : ℕ → Option read.Row → Type 0
EndsBlobBy units (Some (variants.Blob sbid first slots)) = first + length slots ≤ units
EndsBlobBy units _ = Unit {0}

-- the units of these pages are below this one
abbrev pub EndsBy : ℕ → Body → Type 0
EndsBy units (private unit csums) = unit + length csums ≤ units
EndsBy units (shared sbid first count) = Unit {0}

abbrev pub AllEndBy : ℕ → List Extent → Type 0
AllEndBy units es = AllByRecursion (λ e. EndsBy units e.body) es

abbrev pub RowEndsBy : ℕ → format.Row → Type 0
RowEndsBy units row = AllEndBy units (format.shard_in row).extents × ((blob_in row).first + length (blob_in row).slots ≤ units)

-- the bytes spell extents, the units of whose pages are below this one
pub record SpellExtentsBelow (w : Width) (bytes : List ℕ) (units : ℕ) : Type 0 where
  pub extents : List Extent
  pub spelled : SpellExtents w bytes extents
  pub below : AllEndBy units extents

-- such an extent stands at the front
pub record BeginsBelow (w : Width) (bytes : List ℕ) (units : ℕ) : Type 0 where
  pub extent : Extent
  pub rest : List ℕ
  pub fits : FitsExtent w extent
  pub below : EndsBy units extent.body
  pub spelled : bytes ≡ extent_bytes w extent ++ rest

-- an extent was read, and the units of its pages are marked
pub record MarksExtent (w : Width) (old new : List ℕ) (m then : Marks) : Type 0 where
  pub extent : Extent
  pub read : ReadsExtent w old new extent
  pub marked : then ≡ body_marked m extent.body
