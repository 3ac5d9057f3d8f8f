-- A transaction that is being planned, after some of its operations.
use Rattle.std.specs.Prelude.{◌≡◌, ◌↔◌, ℕ, ◌*◌, ◌≤◌, Bool, true, false, is_some, List, [], length, take, Option, Some, None, Contains}
use Rattle.std.specs.List.{AllByRecursion, list_any}
use Rattle.std.specs.Option.{option_map}
use Rattle.std.specs.FinMap as finite
use Rattle.object_model.specs.Prelude.{Change, is_too_large}
use Rattle.meta_rows.specs.Prelude.{Rows}
use Rattle.unit_fields.specs.Prelude.{IsName, IsCollName}
use Rattle.unit_fields.specs.declared.width.Width.{Width}
use Rattle.row_format.specs.Prelude.{coll_key, onode_key}
use Rattle.store_image.specs.Prelude.{HasKey}
use Rattle.plan_rows.specs.declared.plan.ReadUnit.{ReadUnit}
use Rattle.plan_drafts.specs.Prelude.{page_unit, Layout, HasLayout, ValueKey, value_key, IsValueKey, IsKnown, CollDraft, with_ops, places_of, held_by, none_held, AreTaken, draft_of, Leaves}
use Rattle.row_changes.specs.Prelude.{value_seen}
use Rattle.value_changes.specs.Changed.{AreOfValues}
use Rattle.page_edits.specs.Writes.{after_writes, CanBeMade}
use Rattle.txn_planner.specs.declared.planning.Planning.{Planning}
use Rattle.txn_planner.specs.declared.touched.Touched.{Touched}
use Rattle.txn_planner.specs.Touching.{IsTouched}

-- the collection as the rows say it, where its objects have these layouts and checksums this width
abbrev pub first_draft : Width → Rows → List ℕ → (List ℕ → Option Layout) → CollDraft
first_draft w rows c layouts = record {
  there = finite.contains_key rows (coll_key c);
  layout = λ o. option_map draft_of (layouts o);
  value = λ o k. finite.get rows (value_key c o k);
  taken = 0;
  unshared = [];
  on = page_unit w rows;
}

-- The state has the collection as this draft has it: whether it is there, each object that was looked at as it stands now, all others as they stood,
-- and the values through the changes of rows; the units and the slots are known that pages have left.
pub record IsStateOf (rows : Rows) (c : List ℕ) (layouts : List ℕ → Option Layout) (d : CollDraft) (p : Planning) : Type 0 where
  pub there : p.there ≡ d.there
  pub touched : (o : List ℕ) (t : Touched) → finite.get p.objects o ≡ Some t → IsTouched rows c o (layouts o) (d.layout o) t
  pub untouched : (o : List ℕ) → IsName o → finite.get p.objects o ≡ None → d.layout o ≡ option_map draft_of (layouts o)
  pub of_values : AreOfValues c p.values
  pub values : (o : List ℕ) (k : ValueKey) → IsName o → IsValueKey k → value_seen rows p.values (value_key c o k) ≡ d.value o k
  pub taken : p.taken ≡ d.taken
  pub left : (unit : ℕ) → Contains p.left.items unit ↔ Leaves layouts d unit
  pub unshared : p.unshared.items ≡ d.unshared

-- whether one of these objects is there
abbrev pub any_there : List (List ℕ × Touched) → Bool
any_there es = list_any (λ e. is_some e.1.now) es

-- an object has an onode that wasn't looked at
pub record HasUntouched (rows : Rows) (c : List ℕ) (p : Planning) : Type 0 where
  pub object : List ℕ
  pub named : IsName object
  pub there : HasKey rows (onode_key c object)
  pub untouched : finite.get p.objects object ≡ None

-- each object that has an onode was looked at
abbrev pub AllTouched : Rows → List ℕ → Planning → Type 0
AllTouched rows c p = (o : List ℕ) → IsName o → HasKey rows (onode_key c o) → finite.contains_key p.objects o ≡ true

-- The objects of the collection have these layouts, and the transaction is one that can be planned at all.
pub record IsGround (w : Width) (change : Change) (rows : Rows) (layouts : List ℕ → Option Layout) : Type 0 where
  pub coll : IsCollName change.coll
  pub known : IsKnown change.ops
  pub small : is_too_large change ≡ false
  pub has : (o : List ℕ) → IsName o → HasLayout w rows change.coll o (layouts o)

-- The first so many operations of the transaction are planned: each is taken, the state is what they lead to, and the places and the writes are theirs.
pub record IsPlannedTo (w : Width) (change : Change) (rows : Rows) (layouts : List ℕ → Option Layout) (n : ℕ) (p : Planning) : Type 0 where
  pub taken : AreTaken (take n change.ops) (first_draft w rows change.coll layouts)
  pub state : IsStateOf rows change.coll layouts (with_ops (take n change.ops) (first_draft w rows change.coll layouts)) p
  pub few : p.taken ≤ 258 * n
  pub places : p.places.items ≡ places_of (take n change.ops) (first_draft w rows change.coll layouts)
  pub held : (read : List ReadUnit) → AllByRecursion (λ r. length r.bytes ≡ 4096) read
      → after_writes change.ops read p.writes.items none_held ≡ held_by read (take n change.ops) (first_draft w rows change.coll layouts) none_held
  pub can : AllByRecursion (CanBeMade change.ops p.taken) p.writes.items

-- so it is, whatever layouts the objects have
abbrev pub PlannedTo : Width → Change → Rows → ℕ → Planning → Type 0
PlannedTo w change rows n p = (layouts : List ℕ → Option Layout) → IsGround w change rows layouts → IsPlannedTo w change rows layouts n p
