-- Old bytes, by the units that hold them and the checksums that are kept: which can be read, and what reads of them give.
use Rattle.std.specs.Prelude.{◌≡◌, ℕ, ◌<◌, ◌≤◌, List, ◌∷◌, ◌++◌, length, map, Option, Some, None}
use Rattle.std.specs.List.{AllByRecursion}
use Rattle.block_device.specs.Prelude.{Disk, IsUntouched}
use Rattle.store_image.specs.Prelude.{PageUnit}
use Rattle.read_facts.specs.Prelude.{IsHeldAt, AreGoodUnits, IsFirstBadUnit}
use Rattle.plan_rows.specs.declared.plan.ReadUnit.{ReadUnit}
use Rattle.plan_rows.specs.Prelude.{AreReadAt}
use Rattle.page_sources.specs.declared.parts.PartFail.{PartFail}
use Rattle.page_sources.specs.declared.parts.PartFail.TheVariants as why

-- the place's unit lies inside the device, and is in memory or in no flight
abbrev pub CanReadPlace : (ℕ → Option (List ℕ)) → Disk → PageUnit → Type 0
CanReadPlace memory d on = (on.unit < d.units) × (memory on.unit ≡ None → IsUntouched d.flights on.unit)

-- these places can be read: the unit of each lies inside the device, and is in memory, whole, or in no flight
pub record CanReadPlaces (memory : ℕ → Option (List ℕ)) (d : Disk) (places : List PageUnit) : Type 0 where
  pub units_most : d.units ≤ 1048576
  pub each : AllByRecursion (CanReadPlace memory d) places
  pub whole : (unit : ℕ) (bytes : List ℕ) → memory unit ≡ Some bytes → length bytes ≡ 4096

-- What was read of places: their units, in order, and for each the bytes that it gives; so none of them is bad.
pub record GivesPlaces (memory : ℕ → Option (List ℕ)) (d : Disk) (places : List PageUnit) (read : List ReadUnit) : Type 0 where
  pub units : AreReadAt places read
  pub good : AreGoodUnits memory (IsHeldAt d) places (map (λ r. r.bytes) read)

-- the unit of one of these places isn't in memory: the device has to be read for it
pub record HasPlaceToRead (memory : ℕ → Option (List ℕ)) (places : List PageUnit) : Type 0 where
  pub front : List PageUnit
  pub on : PageUnit
  pub rest : List PageUnit
  pub is : places ≡ front ++ on ∷ rest
  pub not_in_memory : memory on.unit ≡ None

-- what a failed read of places says of them: the device fails only where it is read
abbrev pub IsPlacesFail : (ℕ → Option (List ℕ)) → Disk → List PageUnit → PartFail → Type 0
IsPlacesFail memory d places (why.BadPage bad) = IsFirstBadUnit memory (IsHeldAt d) places bad.unit bad.kept bad.found
IsPlacesFail memory d places why.Fault = HasPlaceToRead memory places
IsPlacesFail memory d places why.Memory = Unit {0}
