-- What failed reads of pages answer.
use Rattle.std.specs.Prelude.{◌≡◌, ℕ, Result, Ok, Err}
use Rattle.object_model.specs.declared.command.Answer.{Answer}
use Rattle.object_model.specs.declared.command.Answer.TheVariants as answer
use Rattle.read_facts.specs.declared.view.BadSum.{BadSum}
use Rattle.page_sources.specs.declared.parts.PartFail.{PartFail}
use Rattle.page_sources.specs.declared.parts.PartFail.TheVariants as why

-- the answer is the bad page
abbrev pub IsCsumOf : PartFail → Answer → Type 0
IsCsumOf (why.BadPage bad) a = a ≡ answer.Csum bad.unit bad.kept bad.found
IsCsumOf fail a = ⊥

-- what a read of all pages came to: their checksum, or the bad one
abbrev pub IsSumOf : Result ℕ PartFail → Result ℕ BadSum → Type 0
IsSumOf (Ok crc) sum = sum ≡ Ok crc
IsSumOf (Err (why.BadPage bad)) sum = sum ≡ Err bad
IsSumOf (Err fail) sum = ⊥
