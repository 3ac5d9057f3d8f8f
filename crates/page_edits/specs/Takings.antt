-- What is known of a draft's pages by the numbers of their takings.
use Rattle.std.specs.Prelude.{◌≡◌, ℕ, ◌<◌, Some, None, length, List, map, Contains}
use Rattle.std.specs.List.{AllByRecursion}
use Rattle.std.specs.FinMap as finite
use Rattle.row_format.specs.Prelude.{Place}
use Rattle.store_image.specs.Prelude.{PageUnit}
use Rattle.plan_drafts.specs.declared.draft.Draft.{Draft}
use Rattle.plan_rows.specs.declared.plan.ReadUnit.{ReadUnit}
use Rattle.plan_drafts.specs.Edits.{Held}

-- each page that was put has a taking of its own, one of the first n
pub record IsNumbered (n : ℕ) (d : Draft) : Type 0 where
  pub below : (page taking : ℕ) → finite.get d.puts page ≡ Some taking → taking < n
  pub alone : (page other taking : ℕ) → finite.get d.puts page ≡ Some taking → finite.get d.puts other ≡ Some taking → page ≡ other

-- no page stands where it stood and was put as well
abbrev pub IsKeptOrPut : Draft → Type 0
IsKeptOrPut d = (page : ℕ) (place : Place) → finite.get d.kept page ≡ Some place → finite.get d.puts page ≡ None

-- what was put is to hold whole pages
abbrev pub PutsWholePages : Held → Draft → Type 0
PutsWholePages held d = (page taking : ℕ) → finite.get d.puts page ≡ Some taking → length (held taking) ≡ 4096

-- the old bytes of these places were read, and they are what the units hold
pub record WereRead (at : ℕ → List ℕ) (places : List PageUnit) (read : List ReadUnit) : Type 0 where
  pub among : (unit : ℕ) → Contains (map (λ on. on.unit) places) unit → Contains (map (λ r. r.unit) read) unit
  pub seen : AllByRecursion (λ r. at r.unit ≡ r.bytes) read
