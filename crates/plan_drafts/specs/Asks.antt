-- What planning a transaction asks for over rows, before any old bytes were read.
use Rattle.std.specs.Prelude.{◌≡◌, ℕ, List, [], Option, Some}
use Rattle.std.specs.Option.{option_map}
use Rattle.std.specs.FinMap as finite
use Rattle.object_model.specs.Prelude.{Change}
use Rattle.meta_rows.specs.Prelude.{Rows}
use Rattle.unit_fields.specs.Prelude.{IsName}
use Rattle.unit_fields.specs.declared.width.Width.{Width}
use Rattle.row_format.specs.Prelude.{coll_key, Place}
use Rattle.store_image.specs.Prelude.{PageUnit, StandsOn}
pub use Rattle.plan_rows.specs.Asks.{AreReadAt}
use Rattle.plan_drafts.specs.Drafts.{CollDraft, with_ops, places_of, AreTaken}
use Rattle.plan_drafts.specs.declared.draft.Draft.{Draft}
use Rattle.plan_drafts.specs.Layouts.{Layout, HasLayout, or_empty}
use Rattle.plan_rows.specs.Values.{ValueKey, value_key, IsValueKey}

-- an object before its transaction: all its pages stand where they stand
abbrev pub draft_of : Layout → Draft
draft_of x = record { size = x.size; kept = x.pages; puts = finite.empty }

-- the places of objects are on these units, as the rows say it of slots
abbrev pub PlacesStand : Width → Rows → (List ℕ → Option Layout) → (Place → PageUnit) → Type 0
PlacesStand w rows layouts on = (o : List ℕ) (page : ℕ) (place : Place) → IsName o → finite.get (or_empty (layouts o)).pages page ≡ Some place
    → StandsOn w rows place (on place)

-- The collection as the rows say it: whether it is there, the layouts of its objects, and their values; and on which unit each place is. Nothing
-- is taken yet, and no slot left.
pub record Begins (w : Width) (rows : Rows) (c : List ℕ) (layouts : List ℕ → Option Layout) (d : CollDraft) : Type 0 where
  pub there : d.there ≡ finite.contains_key rows (coll_key c)
  pub has : (o : List ℕ) → IsName o → HasLayout w rows c o (layouts o)
  pub drafts : (o : List ℕ) → IsName o → d.layout o ≡ option_map draft_of (layouts o)
  pub values : (o : List ℕ) (k : ValueKey) → IsName o → IsValueKey k → d.value o k ≡ finite.get rows (value_key c o k)
  pub none_taken : d.taken ≡ 0
  pub none_left : d.unshared ≡ []
  pub stand : PlacesStand w rows layouts d.on

-- A transaction of which each operation is taken asks for so many free units, as many as its operations take one after the other, and for the old
-- bytes of these places.
pub record AsksFor (w : Width) (change : Change) (rows : Rows) (need : ℕ) (places : List PageUnit) : Type 0 where
  pub layouts : List ℕ → Option Layout
  pub start : CollDraft
  pub begins : Begins w rows change.coll layouts start
  pub taken : AreTaken change.ops start
  pub need_is : need ≡ (with_ops change.ops start).taken
  pub places_are : places ≡ places_of change.ops start
