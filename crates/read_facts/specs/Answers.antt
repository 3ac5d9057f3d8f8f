-- What rows and units answer to a read: units as in the reads of pages, by what is in memory and what is held.
use Rattle.std.specs.Prelude.{◌≡◌, ℕ, List, Option, Some}
use Rattle.std.specs.FinMap as finite
use Rattle.crc32c_csum.specs.Prelude.{crc32c}
use Rattle.object_model.specs.declared.command.Command.TheVariants as ask
use Rattle.object_model.specs.declared.command.Read.{Read}
use Rattle.object_model.specs.declared.command.Read.TheVariants as reads
use Rattle.object_model.specs.declared.command.Answer.{Answer}
use Rattle.object_model.specs.declared.command.Answer.TheVariants as answer
use Rattle.meta_rows.specs.Prelude.{Rows, row}
use Rattle.unit_fields.specs.Prelude.{IsName, IsCollName}
use Rattle.unit_fields.specs.declared.width.Width.{Width}
use Rattle.row_format.specs.Prelude.{attr_key, header_key, omap_key}
use Rattle.store_image.specs.Prelude.{HasOnode}
use Rattle.read_facts.specs.Walks.{IsObject, AreAll}
use Rattle.read_facts.specs.PageReads.{ReadsRange, FailsAt}
use Rattle.read_facts.specs.Refusals.{IsRefusedBy, IsNotRefused}

-- the names in a read are names
abbrev pub HasReadNames : Read → Type 0
HasReadNames (reads.Bytes c o off len) = IsCollName c × IsName o
HasReadNames (reads.Sum c o) = IsCollName c × IsName o
HasReadNames (reads.Stat c o) = IsCollName c × IsName o
HasReadNames (reads.GetAttr c o name) = IsCollName c × IsName o × IsName name
HasReadNames (reads.OmapGet c o key) = IsCollName c × IsName o × IsName key
HasReadNames (reads.OmapHeader c o) = IsCollName c × IsName o
HasReadNames (reads.List c) = IsCollName c

-- what a read gives that isn't refused
abbrev pub Gives : Width → (ℕ → Option (List ℕ)) → (ℕ → List ℕ → Type 0) → Rows → Read → Answer → Type 0
Gives w memory held rows (reads.Bytes c o off len) (answer.Bytes bytes) = (size : ℕ) × ReadsRange w memory held rows c o size off len bytes
Gives w memory held rows (reads.Bytes c o off len) (answer.Csum unit kept found) = (size : ℕ) × FailsAt w memory held rows c o size off len unit kept found
Gives w memory held rows (reads.Sum c o) (answer.Sum size crc) =
    (bytes : List ℕ) × (ReadsRange w memory held rows c o size 0 size bytes × (crc ≡ crc32c bytes))
Gives w memory held rows (reads.Sum c o) (answer.Csum unit kept found) = (size : ℕ) × FailsAt w memory held rows c o size 0 size unit kept found
Gives w memory held rows (reads.Stat c o) (answer.Size size) = HasOnode rows c o size
Gives w memory held rows (reads.GetAttr c o name) (answer.Bytes value) = finite.get rows (attr_key c o name) ≡ Some value
Gives w memory held rows (reads.OmapGet c o key) (answer.Bytes value) = finite.get rows (omap_key c o key) ≡ Some value
Gives w memory held rows (reads.OmapHeader c o) (answer.Bytes value) = value ≡ row rows (header_key c o)
Gives w memory held rows (reads.List c) (answer.Names names) = AreAll (IsObject rows c) names
Gives w memory held rows read a = ⊥

-- The answer to a read: its refusal, or what it gives.
abbrev pub IsAnswerOf : Width → (ℕ → Option (List ℕ)) → (ℕ → List ℕ → Type 0) → Rows → Read → Answer → Type 0
IsAnswerOf w memory held rows read (answer.Refused refusal) = IsRefusedBy rows (ask.Read read) refusal
IsAnswerOf w memory held rows read a = IsNotRefused rows (ask.Read read) × Gives w memory held rows read a
