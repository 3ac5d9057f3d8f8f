-- Laws of the disk model: what the definitions of a device mean together.
use Rattle.std.specs.Prelude.{◌≡◌, ◌↔◌, ℕ, ◌+◌, List, [], ◌∷◌, ◌++◌, length, Contains, All, true, false}
use Rattle.byte_maps.specs.Units.{unit_at, Covers, IsUnits}
use Rattle.block_device.specs.Log.{last, WritesNothing, IsStable, IsClean, IsDirty, IsCrashImage, IsAnsweredOnce}
use Rattle.block_device.specs.Tests.{is_dirty}
use Rattle.block_device.specs.Image.{IsTornImage, IsWholeLog}
use Rattle.block_device.specs.declared.event.Event.{Event}
use Rattle.block_device.specs.declared.event.Event.TheVariants.{Write, Flush, Done}
use Rattle.block_device.specs.declared.image.Tear.{Tear}

-- where no unit is dirty a crash leaves what was last written, and nothing else
abbrev pub CleanHasOneImage : Type 0
CleanHasOneImage =
    (units : ℕ) (start : List ℕ) (log : List Event) (image : List ℕ) → IsUnits units start → IsWholeLog (length start) log
    → ((k : ℕ) → IsClean log k) → IsCrashImage start log image ↔ (image ≡ last start log)

-- events that write nothing only take images away
abbrev pub ImagesShrink : Type 0
ImagesShrink =
    (start : List ℕ) (log more : List Event) (image : List ℕ) → All WritesNothing more
    → IsCrashImage start (log ++ more) image → IsCrashImage start log image

-- a write, its good Done, a flush and its good Done: the units are clean, where they were clean before the write
abbrev pub FlushCleans : Type 0
FlushCleans =
    (log : List Event) (at k : ℕ) (bytes : List ℕ) → IsClean log k
    → let write = length log in IsClean (log ++ Write at bytes ∷ Done write true ∷ Flush ∷ Done (write + 2) true ∷ []) k

-- from its submission on each unit of a write is dirty, since a ticket has no Done before its submission
abbrev pub WriteDirties : Type 0
WriteDirties =
    (log : List Event) (at k : ℕ) (bytes : List ℕ) → Covers at bytes k → (¬ Contains log (Done (length log) true))
    → IsDirty (log ++ Write at bytes ∷ []) k

-- a unit is dirty where the test says so, and clean where it does not
abbrev pub DirtyIsTested : Type 0
DirtyIsTested = (log : List Event) (k : ℕ) → ((is_dirty log k ≡ true) ↔ IsDirty log k) × ((is_dirty log k ≡ false) ↔ IsClean log k)

-- each image of a tear is a crash image
abbrev pub TornIsCrash : Type 0
TornIsCrash =
    (tear : Tear) (units : ℕ) (start : List ℕ) (log : List Event) (image : List ℕ) → IsUnits units start → IsWholeLog (length start) log
    → IsTornImage tear start log image → IsCrashImage start log image

-- an image that the test of dirtiness allows is a crash image, and the other way round
abbrev pub CrashByDirty : Type 0
CrashByDirty =
    (start : List ℕ) (log : List Event) (image : List ℕ)
    → IsCrashImage start log image
    ↔ ((length image ≡ length start) × ((k : ℕ) → is_dirty log k ≡ false → unit_at k image ≡ unit_at k (last start log)))

-- a stable write has a good Done, and so, where each ticket is answered once, no bad one
abbrev pub StableIsGood : Type 0
StableIsGood =
    (log : List Event) (write : ℕ) → IsAnsweredOnce log → IsStable log write
    → Contains log (Done write true) × (¬ Contains log (Done write false))
