-- How many pages name each slot of each blob, of the rows that were gone through.
use Rattle.std.specs.Prelude.{◌≡◌, ◌≢◌, ◌⊎◌, ◌↔◌, ℕ, zero, suc, ◌+◌, ◌<◌, ◌≤◌, ◌^◌, List, [], ◌∷◌, ◌++◌, length, drop, replicate, slice_index_or, slice_set, Option, Some, None, refl}
use Rattle.std.specs.List.{insert, AllByRecursion}
use Rattle.std.specs.FinMap as map
use Rattle.std.specs.Coded.{Coded, code_by, coded×, coded_list, coded_ℕ}
use Rattle.byte_maps.specs.ByteMap.{ByteMap}
use Rattle.unit_fields.specs.declared.width.Width.{Width}
use Rattle.meta_rows.specs.Prelude.{Rows}
use Rattle.row_format.specs.Prelude.{shared_key, Body, private, shared, Extent, Slot, Row, shard_in, blob}
use Rattle.store_image.specs.Prelude.{HasRow, HasSlot, IsCounted}
use Rattle.ordered_lists.specs.Lists.{IsIn, Ascend, ListsAll}
use Rattle.findings.specs.Findings.{SlotCount, SlotBefore, IsWrongCount, IsSlotAmong}
use Rattle.row_reading.specs.Slots.{coded_slot}
use Rattle.row_reading.specs.declared.row.Row as read
use Rattle.row_reading.specs.declared.row.Row.TheVariants as variants
use Rattle.row_reading.specs.Reading.{SpellsRow}

-- a blob, and how many pages name each of its slots
pub record Tally : Type 0 where
  pub sbid : ℕ
  pub first : ℕ
  pub slots : List Slot
  pub named : List ℕ

abbrev pub coded_tally : Coded Tally
coded_tally = code_by (ℕ × (ℕ × (List Slot × List ℕ))) (coded× coded_ℕ (coded× coded_ℕ (coded× (coded_list coded_slot) (coded_list coded_ℕ))))
    (λ t. (t.sbid, (t.first, (t.slots, t.named)))) (λ p. record { sbid = p.0; first = p.1.0; slots = p.1.1.0; named = p.1.1.1 }) (λ _. refl)

-- one that no page names
abbrev pub new_tally : ℕ → ℕ → List Slot → Tally
new_tally sbid first slots = record { sbid = sbid; first = first; slots = slots; named = replicate (length slots) 0 }

-- where there is none
abbrev pub no_tally : Tally
no_tally = new_tally 0 0 []

-- one page more names the slot
abbrev pub one_named_more : List ℕ → ℕ → List ℕ
one_named_more named slot = slice_set named slot (slice_index_or named slot 0 + 1)

abbrev pub tally_one_more : Tally → ℕ → Tally
tally_one_more t slot = record { sbid = t.sbid; first = t.first; slots = t.slots; named = one_named_more t.named slot }

-- one page more names each of so many slots from the first on
abbrev pub named_more : List ℕ → ℕ → ℕ → List ℕ
named_more named first zero = named
named_more named first (suc n) = one_named_more (named_more named first n) (first + n)

abbrev pub tally_raised : Tally → ℕ → ℕ → Tally
tally_raised t first count = record { sbid = t.sbid; first = t.first; slots = t.slots; named = named_more t.named first count }

-- the blobs, and the place of each in the list under the key of its row
pub record Tallies : Type 0 where
  pub places : ByteMap ℕ
  pub list : List Tally

abbrev pub coded_tallies : Coded Tallies
coded_tallies = code_by (ByteMap ℕ × List Tally) (coded× (map.code (coded_list coded_ℕ) coded_ℕ) (coded_list coded_tally))
    (λ t. (t.places, t.list)) (λ p. record { places = p.0; list = p.1 }) (λ _. refl)

-- the blob at this place is named
abbrev pub raised_at : List Tally → ℕ → ℕ → ℕ → List Tally
raised_at [] at first count = []
raised_at (t ∷ ts) zero first count = tally_raised t first count ∷ ts
raised_at (t ∷ ts) (suc at) first count = t ∷ raised_at ts at first count

abbrev pub raised_place : Tallies → Option ℕ → ℕ → ℕ → Tallies
raised_place t None first count = t
raised_place t (Some at) first count = record { places = t.places; list = raised_at t.list at first count }

-- the pages of an extent name the slots on which they stand
abbrev pub body_tallied : Tallies → Body → Tallies
body_tallied t (private unit csums) = t
body_tallied t (shared sbid first count) = raised_place t (map.get t.places (shared_key sbid)) first count

abbrev pub extents_tallied : Tallies → List Extent → Tallies
extents_tallied t [] = t
extents_tallied t (e ∷ es) = extents_tallied (body_tallied t e.body) es

-- the same for the extents of the row that a key and a value spell, if it is a shard
abbrev pub IsTalliedOn : Width → List ℕ → List ℕ → Tallies → Tallies → Type 0
IsTalliedOn w key value old new = (row : Row) → SpellsRow w key value row → new ≡ extents_tallied old (shard_in row).extents

-- the blob of this number has its place in the list, and so many slots
pub record HasTallyOf (t : Tallies) (sbid slots : ℕ) : Type 0 where
  pub at : ℕ
  pub is : map.get t.places (shared_key sbid) ≡ Some at
  pub within : at < length t.list
  pub sbid_is : (slice_index_or t.list at no_tally).sbid ≡ sbid
  pub wide : slots ≤ length (slice_index_or t.list at no_tally).named

-- so has each on whose slots pages of an extent stand
abbrev pub HasPlaces : Tallies → Body → Type 0
HasPlaces t (private unit csums) = Unit {0}
HasPlaces t (shared sbid first count) = HasTallyOf t sbid (first + count)

-- the same, of the extents of such a row
abbrev pub RowHasPlaces : Width → List ℕ → List ℕ → Tallies → Type 0
RowHasPlaces w key value t = (row : Row) → SpellsRow w key value row → AllByRecursion (λ e. HasPlaces t e.body) (shard_in row).extents

-- a blob has this place in the list, and each slot has as many namers as something says
pub record HasTally (w : Width) (rows : Rows) (Counted : ℕ → ℕ → ℕ → Type 0) (t : Tally) : Type 0 where
  pub has_blob : HasRow w rows (blob t.sbid t.first t.slots)
  pub each : length t.named ≡ length t.slots
  pub counted : (k : ℕ) → k < length t.slots → Counted t.sbid k (slice_index_or t.named k 0)

-- the list has each of these blobs once, and each of its blobs so
pub record AreTallies (w : Width) (rows : Rows) (There : ℕ → Type 0) (Counted : ℕ → ℕ → ℕ → Type 0) (t : Tallies) : Type 0 where
  pub has : (at : ℕ) → at < length t.list → HasTally w rows Counted (slice_index_or t.list at no_tally)
  pub places : (at : ℕ) → at < length t.list → map.get t.places (shared_key (slice_index_or t.list at no_tally).sbid) ≡ Some at
  pub only : (at : ℕ) → at < length t.list → There (slice_index_or t.list at no_tally).sbid
  pub all : (sbid : ℕ) → There sbid → (at : ℕ) × ((at < length t.list) × ((slice_index_or t.list at no_tally).sbid ≡ sbid))

-- a blob of the store
abbrev pub HasBlobRow : Width → Rows → ℕ → Type 0
HasBlobRow w rows sbid = (first : ℕ) × (slots : List Slot) × HasRow w rows (blob sbid first slots)

-- all blobs of the store, and how many pages name each slot
abbrev pub AreTallied : Width → Rows → Tallies → Type 0
AreTallied w rows t = AreTallies w rows (HasBlobRow w rows) (IsCounted w rows) t

-- all of them, and no page so far
abbrev pub IsUncounted : ℕ → ℕ → ℕ → Type 0
IsUncounted sbid k n = n ≡ 0

abbrev pub AreUnnamed : Width → Rows → Tallies → Type 0
AreUnnamed w rows t = AreTallies w rows (HasBlobRow w rows) IsUncounted t

-- the blobs with that of this row, if it is a blob's
abbrev pub with_blob : Tallies → List ℕ → Row → Tallies
with_blob t key (blob sbid first slots) = record { places = map.insert t.places key (length t.list); list = t.list ++ new_tally sbid first slots ∷ [] }
with_blob t key _ = t

-- the key is one of a blob's row, by its first byte
abbrev pub BeginsBlob : List ℕ → Type 0
BeginsBlob key = (rest : List ℕ) × (key ≡ 0x58 ∷ rest)

-- the same where a row was read
abbrev pub WithRow : List ℕ → Option read.Row → Tallies → Tallies → Type 0
WithRow key (Some (variants.Blob sbid first slots)) old new =
    new ≡ record { places = map.insert old.places key (length old.list); list = old.list ++ new_tally sbid first slots ∷ [] }
WithRow key _ old new = new ≡ old

-- a key and a value spell some row
abbrev pub SpellsSomeRow : Width → List ℕ → List ℕ → Type 0
SpellsSomeRow w key value = (row : Row) × SpellsRow w key value row

abbrev pub IsAddedOn : Width → List ℕ → List ℕ → Tallies → Tallies → Type 0
IsAddedOn w key value old new = (row : Row) → SpellsRow w key value row → new ≡ with_blob old key row

-- ---- wrong counts

-- what the slot number k of a blob keeps, and how many pages name it
abbrev pub slot_count_of : Tally → ℕ → SlotCount
slot_count_of t k = record {
  unit = t.first + k;
  sbid = t.sbid;
  index = k;
  kept = (slice_index_or t.slots k (record { csum = 0; count = 0 })).count;
  counted = slice_index_or t.named k 0;
}

-- the slot goes here among others in their order: it comes before those from this place on, and not before the one in front of it
pub record GoesAt (counts : List SlotCount) (x : SlotCount) (at : ℕ) : Type 0 where
  pub within : at ≤ length counts
  pub behind : AllByRecursion (SlotBefore x) (drop at counts)
  pub front : (k : ℕ) → suc k ≡ at → (d : SlotCount) → ¬ SlotBefore x (slice_index_or counts k d)

-- a slot is added to others in their order, if its count is wrong
abbrev pub AddsIfWrong : SlotCount → List SlotCount → List SlotCount → Type 0
AddsIfWrong x old new = ((x.kept ≡ x.counted) × (new ≡ old))
    ⊎ ((x.kept ≢ x.counted) × ((at : ℕ) × (GoesAt old x at × (new ≡ insert old at x))))

-- one of the first so many slots of the blob, with a wrong count
pub record IsWrongOf (t : Tally) (slot : ℕ) (x : SlotCount) : Type 0 where
  pub inside : x.index < slot
  pub is : x ≡ slot_count_of t x.index
  pub wrong : x.counted ≢ x.kept

-- those of the first so many slots of a blob are added to others, which are none of this blob
pub record AddsWrongTo (t : Tally) (slot : ℕ) (old new : List SlotCount) : Type 0 where
  pub has : (x : SlotCount) → IsIn x new ↔ (IsIn x old ⊎ IsWrongOf t slot x)
  pub ascend : Ascend SlotBefore old → AllByRecursion (λ x. x.sbid ≢ t.sbid) old → Ascend SlotBefore new

abbrev pub AddsWrong : Tally → List SlotCount → List SlotCount → Type 0
AddsWrong t old new = AddsWrongTo t (length t.slots) old new

-- the slots with wrong counts, by unit and then by blob; each other slot's count is right
pub record AreWrongCounts (w : Width) (rows : Rows) (counts : List SlotCount) : Type 0 where
  pub lists : ListsAll SlotBefore (IsWrongCount w rows) counts
  pub right : (sbid index unit : ℕ) (is : Slot) → HasSlot w rows sbid index unit is
      → IsSlotAmong counts sbid index ⊎ IsCounted w rows sbid index is.count
