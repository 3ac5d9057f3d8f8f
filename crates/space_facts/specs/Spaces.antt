-- What an allocator's space is asked for.
use Rattle.std.specs.Prelude.{ℕ}
use Rattle.meta_log.specs.declared.slot.Super.{Super}
use Rattle.store_image.specs.Prelude.{IsDataUnit}
use Rattle.unit_allocator.specs.Prelude.{Space, IsWithin}

-- the data units are units of the space
abbrev pub HasDataUnits : Super → Space → Type 0
HasDataUnits sup space = (unit : ℕ) → IsDataUnit sup unit → IsWithin space unit

-- and it has no others
abbrev pub HasOnlyDataUnits : Super → Space → Type 0
HasOnlyDataUnits sup space = (unit : ℕ) → IsWithin space unit → IsDataUnit sup unit
