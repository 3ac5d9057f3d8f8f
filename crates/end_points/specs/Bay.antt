-- What a bay hands out.
use Rattle.std.specs.Prelude.{◌≡◌, ℕ, ◌+◌, ◌-◌, ◌*◌, ◌≤◌, List, [], ◌++◌, length, take, Option, Some, None, IsSome, IfSome, unwrap_or}
use Rattle.std.specs.FinMap as map
use Rattle.byte_maps.specs.ByteMap.{ByteMap}
use Rattle.byte_maps.specs.Units.{zeros}
use Rattle.block_device.specs.Prelude.{Disk, IsFresh}
use Rattle.end_points.specs.declared.bay.How.{How}
use Rattle.end_points.specs.declared.bay.How.TheVariants.{Make, Plain, Queued}

-- the devices' contents and the scripts' texts, by name
pub record Names : Type 0 where
  pub devices : ByteMap (List ℕ)
  pub texts : ByteMap (List ℕ)

-- how many devices were given, and what stands under each name: None where the bay doesn't tell
pub record BayView : Type 0 where
  pub given : ℕ
  pub names : Option Names

-- bytes cut, or filled up with zeros, to so many
abbrev pub cut_or_filled : ℕ → List ℕ → List ℕ
cut_or_filled size bytes = take size bytes ++ zeros (size - length bytes)

-- what a device starts with, of what stands under its name: cut or filled where it is made
abbrev pub start_from : Option (List ℕ) → How → Option (List ℕ)
start_from held (Make units) = Some (cut_or_filled (4096 * units) (unwrap_or held []))
start_from held Plain = held
start_from held Queued = held

abbrev pub start_of : Names → List ℕ → How → Option (List ℕ)
start_of names name how = start_from (map.get names.devices name) how

-- the device tells these start contents, and an empty log
abbrev pub StartsWith : Disk → Option (List ℕ) → Type 0
StartsWith disk None = ⊥
StartsWith disk (Some start) = disk.history ≡ Some (record { start = start; log = [] })

-- a made device has just the units that were asked for
abbrev pub HasAskedUnits : How → ℕ → Type 0
HasAskedUnits (Make asked) units = units ≡ asked
HasAskedUnits Plain units = Unit {0}
HasAskedUnits Queued units = Unit {0}

-- a device is made of at most 1048576 units
abbrev pub IsFewUnits : How → Type 0
IsFewUnits (Make asked) = asked ≤ 1048576
IsFewUnits Plain = Unit {0}
IsFewUnits Queued = Unit {0}

-- the bay handed out this device
pub record HandedOut (old : BayView) (name : List ℕ) (how : How) (disk : Disk) (faults : ℕ) (new : BayView) : Type 0 where
  pub fresh : IsFresh disk
  pub no_faults : faults ≡ 0
  pub units : HasAskedUnits how disk.units
  pub contents : IfSome old.names (λ names. StartsWith disk (start_of names name how))
  pub after : new ≡ record old { given = old.given + 1 }

-- the bay opened the text under this name
pub record Opened (old : BayView) (name : List ℕ) (left : Option (List ℕ)) (faults : ℕ) : Type 0 where
  pub no_faults : faults ≡ 0
  pub text : IfSome old.names (λ names. IsSome left × (left ≡ map.get names.texts name))
