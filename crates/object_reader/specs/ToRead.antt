-- Reads for which the device has to be read.
use Rattle.std.specs.Prelude.{◌≡◌, ℕ, ◌+◌, ◌/◌, ◌<◌, List, Option, None}
use Rattle.unit_fields.specs.declared.width.Width.{Width}
use Rattle.object_model.specs.declared.command.Command.TheVariants as ask
use Rattle.object_model.specs.declared.command.Read.{Read}
use Rattle.object_model.specs.declared.command.Read.TheVariants as reads
use Rattle.meta_rows.specs.Prelude.{Rows}
use Rattle.store_image.specs.Prelude.{HasOnode, PageUnit, IsPageOn}
use Rattle.read_facts.specs.Prelude.{IsNotRefused, pages_read}

-- a page of a range of an object stands on a unit that isn't in memory
pub record RangeNeedsDevice (w : Width) (memory : ℕ → Option (List ℕ)) (rows : Rows) (c o : List ℕ) (size off len : ℕ) : Type 0 where
  pub has_size : HasOnode rows c o size
  pub index : ℕ
  pub within : index < pages_read size off len
  pub on : PageUnit
  pub is_on : IsPageOn w rows c o (off / 4096 + index) on
  pub not_in_memory : memory on.unit ≡ None

-- It asks for bytes of an object or for their checksum, isn't refused, and a page that it reads stands on such a unit.
abbrev pub ReadNeedsDevice : Width → (ℕ → Option (List ℕ)) → Rows → Read → Type 0
ReadNeedsDevice w memory rows (reads.Bytes c o off len) =
    IsNotRefused rows (ask.Read (reads.Bytes c o off len)) × ((size : ℕ) × RangeNeedsDevice w memory rows c o size off len)
ReadNeedsDevice w memory rows (reads.Sum c o) = IsNotRefused rows (ask.Read (reads.Sum c o)) × ((size : ℕ) × RangeNeedsDevice w memory rows c o size 0 size)
ReadNeedsDevice w memory rows read = ⊥
