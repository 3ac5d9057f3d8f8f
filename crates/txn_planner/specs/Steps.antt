-- What one operation makes of the state.
use Rattle.std.specs.Prelude.{◌≡◌, ◌⊎◌, ℕ, ◌+◌, ◌<◌, Bool, true, false, ◌||◌, List, [], ◌∷◌, ◌++◌, length, map, Option, Some, None, is_some}
use Rattle.std.specs.List.{AllByRecursion, flat_map}
use Rattle.std.specs.Ordering.{nat_cmp}
use Rattle.std.specs.FinMap as finite
use Rattle.std.specs.FinMap.Entries.{where_key}
use Rattle.object_model.specs.declared.op.Op.{Op}
use Rattle.object_model.specs.declared.op.Op.TheVariants.{Touch, Write, Zero, Truncate, Remove}
use Rattle.object_model.specs.declared.op.Refusal.TheVariants.{NoCollection, CollectionExists, NotEmpty, NoObject, TooBig}
use Rattle.meta_rows.specs.Prelude.{Rows}
use Rattle.unit_fields.specs.Prelude.{IsName}
use Rattle.unit_fields.specs.declared.width.Width.{Width}
use Rattle.row_format.specs.Prelude.{Place}
use Rattle.store_image.specs.Prelude.{PageUnit}
use Rattle.plan_drafts.specs.declared.draft.Draft.{Draft}
use Rattle.plan_rows.specs.declared.plan.ReadUnit.{ReadUnit}
use Rattle.plan_drafts.specs.Prelude.{edit_of, is_touched, pages_taking, places_read, drafted, units_released, slots_released, page_unit, Held, writes_of, Layout, HasLayout, object_of, or_new, edit_on, is_beyond, needs_object, CollDraft, HasSome}
use Rattle.value_changes.specs.Changed.{ChangesValues}
use Rattle.page_edits.specs.Takings.{IsNumbered, PutsWholePages}
use Rattle.page_edits.specs.Writes.{op_at, made_by, IsWriteBy, CanBeMade}
use Rattle.page_edits.specs.declared.edits.Edited.{Edited}
use Rattle.txn_planner.specs.declared.fails.PlanFail.{PlanFail}
use Rattle.txn_planner.specs.declared.fails.PlanFail.TheVariants as fail
use Rattle.txn_planner.specs.declared.planning.Planning.{Planning}
use Rattle.txn_planner.specs.declared.touched.Touched.{Touched}
use Rattle.txn_planner.specs.Planning.{IsStateOf}
use Rattle.txn_planner.specs.Touching.{IsTouched}

-- the objects of a collection have these layouts
abbrev pub HaveLayouts : Width → Rows → List ℕ → (List ℕ → Option Layout) → Type 0
HaveLayouts w rows c layouts = (o : List ℕ) → IsName o → HasLayout w rows c o (layouts o)

-- what holds of each draft that the state is of
abbrev pub OfState : Rows → List ℕ → Planning → (CollDraft → Type 0) → Type 0
OfState rows c p P = (w : Width) (layouts : List ℕ → Option Layout) (d : CollDraft) → IsStateOf rows c layouts d p → HaveLayouts w rows c layouts
    → P d

-- ---- the collection

-- why it isn't made or taken away
abbrev pub IsNotMade : Planning → PlanFail → Type 0
IsNotMade p (fail.Refusal CollectionExists) = p.there ≡ true
IsNotMade p fail.Memory = Unit {0}
IsNotMade p why = ⊥

abbrev pub IsNotDropped : Rows → List ℕ → Planning → PlanFail → Type 0
IsNotDropped rows c p (fail.Refusal NoCollection) = p.there ≡ false
IsNotDropped rows c p (fail.Refusal NotEmpty) = (p.there ≡ true) × OfState rows c p HasSome
IsNotDropped rows c p fail.Memory = Unit {0}
IsNotDropped rows c p why = ⊥

-- ---- an object

-- an operation on an object is taken: the collection is there, it keeps the limits, and its object is there if it has to be
pub record IsFit (rows : Rows) (c : List ℕ) (op : Op) (p : Planning) : Type 0 where
  pub there : p.there ≡ true
  pub within : is_beyond op ≡ false
  pub found : needs_object op ≡ true → OfState rows c p (λ d. is_some (d.layout (object_of op)) ≡ true)

-- or it is refused
abbrev pub IsUnfit : Rows → List ℕ → Op → Planning → PlanFail → Type 0
IsUnfit rows c op p (fail.Refusal NoCollection) = p.there ≡ false
IsUnfit rows c op p (fail.Refusal TooBig) = (p.there ≡ true) × (is_beyond op ≡ true)
IsUnfit rows c op p (fail.Refusal NoObject) = (p.there ≡ true) × (is_beyond op ≡ false) × (needs_object op ≡ true)
    × OfState rows c p (λ d. is_some (d.layout (object_of op)) ≡ false)
IsUnfit rows c op p fail.Memory = Unit {0}
IsUnfit rows c op p why = ⊥

-- the object as it stands before the operation
abbrev pub StandsSo : Width → Rows → List ℕ → List ℕ → Planning → Touched → Type 0
StandsSo w rows c o p t = (layouts : List ℕ → Option Layout) (d : CollDraft) → IsStateOf rows c layouts d p → HaveLayouts w rows c layouts
    → IsTouched rows c o (layouts o) (d.layout o) t

-- what is put back of the object, and what else of the state stays
pub record PutsBack (o : List ℕ) (t : Touched) (old new : Planning) : Type 0 where
  pub there : new.there ≡ old.there
  pub objects : new.objects ≡ finite.insert (finite.remove old.objects o) o t
  pub values : new.values ≡ old.values

-- nothing is taken, left or written
pub record TakesNothing (old new : Planning) : Type 0 where
  pub writes : new.writes.items ≡ old.writes.items
  pub places : new.places.items ≡ old.places.items
  pub left : new.left.items ≡ old.left.items
  pub unshared : new.unshared.items ≡ old.unshared.items
  pub taken : new.taken ≡ old.taken

-- what an edit tells, where places are on these units: its writes, the units that it reads, its takings, and the pages that it touches of those
-- that stood where they stood
pub record TellsEdit (on : Place → PageUnit) (op : Op) (at n : ℕ) (d : Draft) (e : Edited) : Type 0 where
  pub taken : e.taken ≡ n + length (pages_taking (edit_of op d.size) d)
  pub places : e.places ≡ places_read on (edit_of op d.size) d
  pub left : e.left ≡ where_key nat_cmp (is_touched (edit_of op d.size)) (finite.entries d.kept)
  pub writes : (read : List ReadUnit) (held : Held) → PutsWholePages held d
      → map (made_by op read held) e.writes ≡ writes_of on (edit_of op d.size) read held n d
  pub of : AllByRecursion (IsWriteBy at) e.writes
  pub can : (ops : List Op) → at < length ops → op_at ops at ≡ op → IsNumbered n d → AllByRecursion (CanBeMade ops e.taken) e.writes

-- all that it tells is added to the state
pub record AddsEdit (e : Edited) (old new : Planning) : Type 0 where
  pub writes : new.writes.items ≡ old.writes.items ++ e.writes
  pub places : new.places.items ≡ old.places.items ++ e.places
  pub left : new.left.items ≡ old.left.items ++ flat_map (λ p. units_released p.1) e.left
  pub unshared : new.unshared.items ≡ old.unshared.items ++ flat_map (λ p. slots_released p.1) e.left
  pub taken : new.taken ≡ e.taken

-- whether a list has anything
abbrev pub has_any : {X : Type 0} → List X → Bool
has_any [] = false
has_any (x ∷ xs) = true

-- A draft is edited, and the object put back as it stands then; what the edit tells is added.
pub record EditsDraft (on : Place → PageUnit) (op : Op) (at : ℕ) (o : List ℕ) (t : Touched) (d : Draft) (old new : Planning) : Type 0 where
  pub edited : Edited
  pub tells : TellsEdit on op at old.taken d edited
  pub there : new.there ≡ old.there
  pub objects : new.objects ≡ finite.insert old.objects o (record t {
    now = Some (drafted (edit_of op d.size) old.taken d);
    left = t.left || has_any edited.left;
  })
  pub values : new.values ≡ old.values
  pub adds : AddsEdit edited old new

-- The object is edited: as it stands then, and what the edit tells is added.
pub record EditsObject (w : Width) (rows : Rows) (c : List ℕ) (op : Op) (at : ℕ) (old new : Planning) : Type 0 where
  pub before : Touched
  pub stands : StandsSo w rows c (object_of op) old before
  pub edits : edit_on op before.now ≡ Some (edit_of op (or_new before.now).size)
  pub edited : Edited
  pub tells : TellsEdit (page_unit w rows) op at old.taken (or_new before.now) edited
  pub puts : PutsBack (object_of op) (record before {
    now = Some (drafted (edit_of op (or_new before.now).size) old.taken (or_new before.now));
    left = before.left || has_any edited.left;
  }) old new
  pub adds : AddsEdit edited old new

-- the operation leaves an object missing, or as it is
pub record LeavesObject (w : Width) (rows : Rows) (c : List ℕ) (op : Op) (old new : Planning) : Type 0 where
  pub before : Touched
  pub stands : StandsSo w rows c (object_of op) old before
  pub missing : before.now ≡ None
  pub puts : PutsBack (object_of op) before old new
  pub nothing : TakesNothing old new

-- The object goes, if it was there: the pages are left that stood where they stood.
pub record DropsObject (w : Width) (rows : Rows) (c o : List ℕ) (old new : Planning) : Type 0 where
  pub before : Touched
  pub stands : StandsSo w rows c o old before
  pub puts : PutsBack o (record before { now = None; left = before.left || has_any (finite.entries (or_new before.now).kept) }) old new
  pub writes : new.writes.items ≡ old.writes.items
  pub places : new.places.items ≡ old.places.items
  pub left : new.left.items ≡ old.left.items ++ flat_map (λ p. units_released p.1) (finite.entries (or_new before.now).kept)
  pub unshared : new.unshared.items ≡ old.unshared.items ++ flat_map (λ p. slots_released p.1) (finite.entries (or_new before.now).kept)
  pub taken : new.taken ≡ old.taken

-- a truncate is the one edit that leaves a missing object missing
abbrev pub IsTruncate : Op → Type 0
IsTruncate (Truncate o to) = Unit {0}
IsTruncate op = ⊥

-- the state stays as it is, since the object of a touch is there
pub record KeepsObject (rows : Rows) (c : List ℕ) (op : Op) (old new : Planning) : Type 0 where
  pub there : OfState rows c old (λ d. is_some (d.layout (object_of op)) ≡ true)
  pub same : new ≡ old

-- What an operation makes of its object's layout.
abbrev pub ChangesObject : Width → Rows → List ℕ → Op → ℕ → Planning → Planning → Type 0
ChangesObject w rows c (Touch o) at old new =
    KeepsObject rows c (Touch o) old new ⊎ EditsObject w rows c (Touch o) at old new
ChangesObject w rows c (Write o off bytes) at old new = EditsObject w rows c (Write o off bytes) at old new
ChangesObject w rows c (Zero o off len) at old new = EditsObject w rows c (Zero o off len) at old new
ChangesObject w rows c (Truncate o to) at old new = EditsObject w rows c (Truncate o to) at old new ⊎ LeavesObject w rows c (Truncate o to) old new
ChangesObject w rows c (Remove o) at old new = DropsObject w rows c o old new
ChangesObject w rows c op at old new = new ≡ old

-- and then of its values
pub record MakesObject (w : Width) (rows : Rows) (c : List ℕ) (op : Op) (at : ℕ) (old new : Planning) : Type 0 where
  pub between : Planning
  pub changes : ChangesObject w rows c op at old between
  pub same : new ≡ record between { values = new.values }
  pub values : ChangesValues op rows c (object_of op) old.values new.values
