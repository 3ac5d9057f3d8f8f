-- What the rows after the operations of a transaction stand on.
use Rattle.std.proofs.Common.{◌≡◌, ℕ, ◌+◌, ◌<◌, ◌≤◌, ◌^◌, List, length, Option, Some, Contains, ◌↔◌}
use Rattle.std.specs.Prelude.{slice_index}
use Rattle.std.specs.FinMap as finite
use Rattle.crc32c_csum.specs.Prelude.{crc32c}
use Rattle.meta_rows.specs.Prelude.{Rows}
use Rattle.meta_log.specs.declared.slot.Super.{Super}
use Rattle.meta_log.specs.Prelude.{width_of}
use Rattle.unit_fields.specs.Prelude.{IsName, IsCollName}
use Rattle.row_format.specs.Prelude.{slot}
use Rattle.store_image.specs.Prelude.{NoBadRow, IsDataUnit, CountsAreExact, PageName, EachOnce}
use Rattle.plan_drafts.specs.Prelude.{Held, Layout, HasLayout, or_empty, or_new, PlacesStand, CollDraft, GetsDraft, Stands, indexes_of, times_in}
use Rattle.plan_proofs.proofs.Reached.{IsReached}

-- ---- pages that name a slot

-- the list has these pages and no others, each once
pub record AreThose (P : PageName → Type 0) (pages : List PageName) : Type 0 where
  pub each : (p : PageName) → Contains pages p ↔ P p
  pub once : EachOnce pages

-- the page of an object in the collection stood on the slot, as the layouts say
pub record Named (c : List ℕ) (layouts : List ℕ → Option Layout) (sbid index : ℕ) (p : PageName) : Type 0 where
  pub coll : p.coll ≡ c
  pub named : IsName p.object
  pub stood : finite.get (or_empty (layouts p.object)).pages p.page ≡ Some (slot sbid index)

-- and stands there still
pub record NamesStill (c : List ℕ) (d : CollDraft) (sbid index : ℕ) (p : PageName) : Type 0 where
  pub coll : p.coll ≡ c
  pub named : IsName p.object
  pub stands : finite.get (or_new (d.layout p.object)).kept p.page ≡ Some (slot sbid index)

-- The balance: of each slot the pages that named it are as many as those that do still and those that left it together.
abbrev pub AreBalanced : List ℕ → (List ℕ → Option Layout) → CollDraft → Type 0
AreBalanced c layouts d = (sbid index : ℕ) (pages : List PageName) → AreThose (Named c layouts sbid index) pages
    → (still : List PageName) × AreThose (NamesStill c d sbid index) still
    × (length pages ≡ length still + times_in (indexes_of sbid d.unshared) index)

-- ---- the rows after

-- What the rows after stand on: no row was bad and counts were exact, places are on the units that the rows say, the draft was reached, and the
-- rows after say it, with units for those takings on whose units pages stand.
pub record AreDrafted (s : Super) (rows after : Rows) (c : List ℕ) (layouts : List ℕ → Option Layout) (units : List ℕ) (held : Held) (y : CollDraft) : Type 0 where
  pub good : NoBadRow s rows
  pub counts : CountsAreExact (width_of s) rows
  pub units_most : s.units ≤ 2 ^ 32
  pub coll : IsCollName c
  pub has : (o : List ℕ) → IsName o → HasLayout (width_of s) rows c o (layouts o)
  pub stand : PlacesStand (width_of s) rows layouts y.on
  pub reached : IsReached layouts y
  pub balance : AreBalanced c layouts y
  pub gets : GetsDraft (width_of s) rows after c layouts units held y
  pub on_data : (taking : ℕ) → Stands y taking → IsDataUnit s (slice_index units taking)
  pub sums : (taking : ℕ) → Stands y taking → crc32c (held taking) < 2 ^ 32
