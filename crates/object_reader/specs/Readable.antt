-- What a read needs of rows and device, and what comes next in a walk.
use Rattle.std.specs.Prelude.{◌≡◌, ℕ, List, length, Option, Some, None}
use Rattle.unit_fields.specs.declared.width.Width.{Width}
use Rattle.block_device.specs.Prelude.{Disk, IsUntouched}
use Rattle.meta_rows.specs.Prelude.{Rows}
use Rattle.meta_log.specs.declared.slot.Super.{Super}
use Rattle.meta_log.specs.Prelude.{IsSuper, width_of}
use Rattle.store_image.specs.Prelude.{NoBadRow, HasPage}
use Rattle.read_facts.specs.declared.view.ObjectView.{ObjectView}
use Rattle.read_facts.specs.Prelude.{IsObject, IsNextOf, IsViewOf}

-- no row is bad for a store of as many units as the device has, with checksums of this width, each unit on which a page stands, and that isn't
-- in memory, is in no flight, and each that is in memory is so whole
pub record IsReadable (w : Width) (memory : ℕ → Option (List ℕ)) (rows : Rows) (d : Disk) : Type 0 where
  pub sup : Super
  pub limits : IsSuper sup
  pub good : NoBadRow sup rows
  pub wide : width_of sup ≡ w
  pub units : sup.units ≡ d.units
  pub free : (unit : ℕ) → HasPage w rows unit → memory unit ≡ None → IsUntouched d.flights unit
  pub whole : (unit : ℕ) (bytes : List ℕ) → memory unit ≡ Some bytes → length bytes ≡ 4096

-- the view is of the next object of the collection behind another one
pub record IsNextView (w : Width) (memory : ℕ → Option (List ℕ)) (held : ℕ → List ℕ → Type 0) (rows : Rows) (c : List ℕ)
    (after : Option (List ℕ)) (v : ObjectView) : Type 0 where
  pub next : IsNextOf (IsObject rows c) after v.name
  pub view : IsViewOf w memory held rows c v
