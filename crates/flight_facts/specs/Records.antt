-- What a transaction's operations and units are like, so that they fit its record and its data writes.
use Rattle.std.specs.Prelude.{◌≡◌, ℕ, length, map}
use Rattle.std.specs.List.{AllByRecursion}
use Rattle.unit_fields.specs.Prelude.{Ascends}
use Rattle.meta_rows.specs.Prelude.{AllFit}
use Rattle.meta_log.specs.Prelude.{unit_count}
use Rattle.store_steps.specs.Prelude.{Intent}

-- The operations of a transaction have a spelling, and its record takes the units that it needs, whatever its number is. What it writes are whole
-- units, ascending.
pub record FitsRecord (x : Intent) : Type 0 where
  pub fit : AllFit x.ops
  pub need : (number : ℕ) → unit_count number x.ops ≡ x.need
  pub whole : AllByRecursion (λ f. length f.bytes ≡ 4096) x.fresh
  pub ascend : Ascends (map (λ f. f.unit) x.fresh)
