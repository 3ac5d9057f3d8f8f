-- What is seen of a source, a sink and a bay in memory: all that their answers follow from.
use Rattle.std.specs.Prelude.{◌≡◌, ◌⊎◌, ℕ, ◌+◌, ◌-◌, ◌*◌, ◌%◌, ◌<◌, ◌≤◌, ◌==◌, min, List, ◌++◌, length, drop, Bool, true, false, ◌&&◌, Option, Some, None, All, Contains}
use Rattle.std.specs.List.{list_any}
use Rattle.std.specs.FinMap as map
use Rattle.block_device.specs.Prelude.{counted, MemoryDisk, fresh_memory}
use Rattle.block_device.specs.declared.kind.Kind.{Kind}
use Rattle.end_points.specs.Bay.{BayView, Names, start_of}
use Rattle.end_points.specs.declared.bay.How.{How}
use Rattle.end_points.specs.declared.memory_bay.Call.{Call}
use Rattle.end_points.specs.declared.memory_bay.Call.TheVariants.{Device, Script}

-- a text in memory: what is left of it, how many bytes a call gives at most, which calls fail, and the calls so far
pub record MemoryText : Type 0 where
  pub left : List ℕ
  pub step : ℕ
  pub fails : List ℕ
  pub calls : ℕ
  pub faults : ℕ

-- how many bytes a read of it takes
abbrev pub size_taken : MemoryText → ℕ → ℕ
size_taken s most = min (min (length s.left) most) s.step

-- after a read that went well
abbrev pub after_take : MemoryText → ℕ → MemoryText
after_take s n = record s { left = drop n s.left; calls = counted s.calls }

-- after one that failed
abbrev pub after_fault : MemoryText → MemoryText
after_fault s = record s { calls = counted s.calls; faults = counted s.faults }

-- an output in memory: what it took, how much it can take, how many bytes a call takes at most, which calls fail, and the calls so far
pub record MemoryOutput : Type 0 where
  pub text : List ℕ
  pub room : ℕ
  pub step : ℕ
  pub fails : List ℕ
  pub calls : ℕ
  pub faults : ℕ

-- how many bytes it takes of a piece
abbrev pub room_for : MemoryOutput → ℕ → ℕ
room_for s size = min (min size (s.room - length s.text)) s.step

-- it fails at a listed call, and where there is no room for the first byte of a piece
abbrev pub OutputRefuses : MemoryOutput → List ℕ → Type 0
OutputRefuses s piece = Contains s.fails s.calls ⊎ ((0 < length piece) × (s.room ≤ length s.text))

abbrev pub after_put : MemoryOutput → List ℕ → MemoryOutput
after_put s bytes = record s { text = s.text ++ bytes; calls = counted s.calls }

abbrev pub after_refusal : MemoryOutput → MemoryOutput
after_refusal s = record s { calls = counted s.calls; faults = counted s.faults }

-- a bay in memory: its names, the counts of calls so far, and the lists that it follows and hands on
pub record MemoryShelf : Type 0 where
  pub names : Names
  pub given : ℕ
  pub device_calls : ℕ
  pub script_calls : ℕ
  pub faults : ℕ
  pub lags : List ℕ
  pub device_fails : List (Kind × ℕ)
  pub source_step : ℕ
  pub source_fails : List ℕ
  pub fails : List (Call × ℕ)

-- with a device's contents, or a text, put under a name
abbrev pub with_device : MemoryShelf → List ℕ → List ℕ → MemoryShelf
with_device s name bytes = record s { names = record { devices = map.insert s.names.devices name bytes; texts = s.names.texts } }

abbrev pub with_text : MemoryShelf → List ℕ → List ℕ → MemoryShelf
with_text s name bytes = record s { names = record { devices = s.names.devices; texts = map.insert s.names.texts name bytes } }

-- after a device was given, or refused; after a script was opened, or refused
abbrev pub after_device : MemoryShelf → MemoryShelf
after_device s = record s { given = s.given + 1; device_calls = counted s.device_calls }

abbrev pub after_refused_device : MemoryShelf → MemoryShelf
after_refused_device s = record s { device_calls = counted s.device_calls; faults = counted s.faults }

abbrev pub after_script : MemoryShelf → MemoryShelf
after_script s = record s { script_calls = counted s.script_calls }

abbrev pub after_refused_script : MemoryShelf → MemoryShelf
after_refused_script s = record s { script_calls = counted s.script_calls; faults = counted s.faults }

-- as a bay: it tells
abbrev pub view_of : MemoryShelf → BayView
view_of s = record { given = s.given; names = Some s.names }

abbrev pub same_call : Call → Call → Bool
same_call Device Device = true
same_call Device Script = false
same_call Script Device = false
same_call Script Script = true

-- the call of this kind and number is listed to fail
abbrev pub is_call_listed : List (Call × ℕ) → Call → ℕ → Bool
is_call_listed fails call number = list_any (λ f. same_call f.0 call && (f.1 == number)) fails

-- a device is refused where its call is listed, and where there is nothing to start it with
abbrev pub RefusesDevice : MemoryShelf → List ℕ → How → Type 0
RefusesDevice s name how = (is_call_listed s.fails Device s.device_calls ≡ true) ⊎ (start_of s.names name how ≡ None)

-- a script is refused where its call is listed, and where there is no text under the name
abbrev pub RefusesScript : MemoryShelf → List ℕ → Type 0
RefusesScript s name = (is_call_listed s.fails Script s.script_calls ≡ true) ⊎ (map.get s.names.texts name ≡ None)

-- the device starts with these contents, and has the bay's lists
abbrev pub IsStarted : MemoryShelf → Option (List ℕ) → MemoryDisk → Type 0
IsStarted s None d = ⊥
IsStarted s (Some start) d = d ≡ fresh_memory start s.lags s.device_fails

-- the source has this text, and the bay's lists
abbrev pub IsOpened : MemoryShelf → Option (List ℕ) → MemoryText → Type 0
IsOpened s None text = ⊥
IsOpened s (Some left) text = text ≡ record { left = left; step = s.source_step; fails = s.source_fails; calls = 0; faults = 0 }

-- whole units, and few enough of them
abbrev pub AreContents : List ℕ → Type 0
AreContents bytes = (length bytes % 4096 ≡ 0) × (length bytes ≤ 4096 * 1048576)

-- what holds of each bay in memory
pub record IsShelf (s : MemoryShelf) : Type 0 where
  pub contents : (name bytes : List ℕ) → map.get s.names.devices name ≡ Some bytes → AreContents bytes
  pub lags : All (λ lag. lag ≤ 63) s.lags
  pub step : 0 < s.source_step
