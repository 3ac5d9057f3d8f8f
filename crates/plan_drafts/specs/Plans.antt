-- What an accepted transaction makes of rows: the row operations, the units that it takes and those that it releases.
use Rattle.std.specs.Prelude.{◌≡◌, ◌⊎◌, ◌↔◌, ℕ, ◌+◌, ◌<◌, ◌≤◌, ◌^◌, ◌==◌, false, List, [], ◌++◌, length, map, take, sum_by, Option, Some, None, Contains, slice_index, if◌then◌else◌}
use Rattle.std.specs.List.{AllByRecursion}
use Rattle.std.specs.Option.{option_map}
use Rattle.std.specs.FinMap as finite
use Rattle.crc32c_csum.specs.Prelude.{crc32c}
use Rattle.object_model.specs.declared.op.Op.{Op}
use Rattle.object_model.specs.declared.op.Op.TheVariants.{Write, Zero, Truncate}
use Rattle.object_model.specs.Prelude.{Change, is_too_large}
use Rattle.meta_rows.specs.Prelude.{Rows, rows_after}
use Rattle.meta_rows.specs.declared.row_op.RowOp.{RowOp}
use Rattle.unit_fields.specs.Prelude.{IsName, IsCollName, Ascends}
use Rattle.unit_fields.specs.declared.width.Width.{Width}
use Rattle.row_format.specs.Prelude.{coll_key, shared_key, Place, own}
use Rattle.blob_map.specs.Prelude.{with_pages}
use Rattle.unit_allocator.specs.Prelude.{Space, free_units}
use Rattle.plan_rows.specs.declared.plan.Plan.{Plan}
use Rattle.plan_rows.specs.declared.plan.FreshUnit.{FreshUnit}
pub use Rattle.plan_rows.specs.Plans.{HoldsFresh, IsFreshUnit, StandsOnce, fresh_units, AreFreeOver}
use Rattle.plan_drafts.specs.Asks.{Begins, AreReadAt}
use Rattle.plan_rows.specs.Difference.{Changes, KeysAscend}
use Rattle.plan_drafts.specs.Drafts.{CollDraft, or_new, with_ops, places_of, held_by, none_held, AreTaken}
use Rattle.plan_drafts.specs.declared.draft.Draft.{Draft}
use Rattle.plan_drafts.specs.Edits.{pages_touched, Held}
use Rattle.plan_drafts.specs.Layouts.{Layout, or_empty, IsKeyOf, GetsLayout, TurnsBits}
use Rattle.plan_rows.specs.Values.{ValueKey, value_key, IsValueKey, IsKeyOfValue}
use Rattle.plan_rows.specs.Blobs.{indexes_of, blob_after, IsKeyOfSlot, IsFreed}

-- ---- how many units

-- At most so many units are taken by an operation: a write takes one for each page that it touches, zeros for the first and the last page, and a
-- truncate for the page of its size.
abbrev pub most_units_of : Op → ℕ
most_units_of (Write o off bytes) = length (pages_touched off (off + length bytes))
most_units_of (Zero o off len) = if len == 0 then 0 else 2
most_units_of (Truncate o to) = 1
most_units_of op = 0

-- and by a transaction
abbrev pub most_units : List Op → ℕ
most_units ops = sum_by most_units_of ops

-- ---- where pages stand after

-- where a page stands that was put: its taking has taken this one of the units
abbrev pub place_put : List ℕ → Held → ℕ → Place
place_put units held taking = own (slice_index units taking) (crc32c (held taking))

-- the layout that an object has with the units that were taken
abbrev pub laid : List ℕ → Held → Draft → Layout
laid units held d = record { size = d.size; pages = with_pages d.kept (map (λ p. (p.0, place_put units held p.1)) (finite.entries d.puts)) }

abbrev pub laid_at : List ℕ → Held → CollDraft → List ℕ → Option Layout
laid_at units held d o = option_map (laid units held) (d.layout o)

-- ---- the rows after

-- the key is that of the collection's row, or of a row of a named object in it
abbrev pub IsKeyOfColl : List ℕ → List ℕ → Type 0
IsKeyOfColl c key = (key ≡ coll_key c) ⊎ ((o : List ℕ) × IsName o × (IsKeyOf c o key ⊎ IsKeyOfValue c o key))

-- or that of a blob whose slots pages left
abbrev pub IsKeyOfDraft : List ℕ → CollDraft → List ℕ → Type 0
IsKeyOfDraft c d key = IsKeyOfColl c key ⊎ IsKeyOfSlot d.unshared key

-- The rows after say what became of the collection: whether it is there, the layout and the values of each object, and the slots of blobs that
-- pages left; and each other row is as it was.
pub record GetsDraft (w : Width) (rows after : Rows) (c : List ℕ) (layouts : List ℕ → Option Layout) (units : List ℕ) (held : Held) (d : CollDraft)
    : Type 0 where
  pub coll : finite.get after (coll_key c) ≡ (if d.there then Some [] else None)
  pub objects : (o : List ℕ) → IsName o → GetsLayout w rows after c o (layouts o) (laid_at units held d o)
  pub values : (o : List ℕ) (k : ValueKey) → IsName o → IsValueKey k → finite.get after (value_key c o k) ≡ d.value o k
  pub blobs : (sbid : ℕ) → sbid < 2 ^ 64
      → finite.get after (shared_key sbid) ≡ blob_after w (finite.get rows (shared_key sbid)) (indexes_of sbid d.unshared)
  pub others : (key : List ℕ) → IsKeyOfDraft c d key ⊎ (finite.get after key ≡ finite.get rows key)

-- ---- units

-- a page of an object stands on the unit of this taking
pub record Stands (d : CollDraft) (taking : ℕ) : Type 0 where
  pub object : List ℕ
  pub named : IsName object
  pub draft : Draft
  pub there : d.layout object ≡ Some draft
  pub page : ℕ
  pub put : finite.get draft.puts page ≡ Some taking

-- a page of an object stood on the unit, and doesn't stand there any more
pub record Leaves (layouts : List ℕ → Option Layout) (d : CollDraft) (unit : ℕ) : Type 0 where
  pub object : List ℕ
  pub named : IsName object
  pub page : ℕ
  pub csum : ℕ
  pub stood : finite.get (or_empty (layouts object)).pages page ≡ Some (own unit csum)
  pub left : finite.get (or_new (d.layout object)).kept page ≡ None

-- what is written: for each of these takings its unit, with what it is to hold
abbrev pub filled : List ℕ → Held → List ℕ → List FreshUnit
filled units held takings = map (λ taking. record { unit = slice_index units taking; bytes = held taking }) takings

-- ---- plans

-- The plan makes the rows of the draft. Its operations are the difference, each key once and in order, and behind them those that turn the bits of
-- the units that it takes and of those that it releases. Fresh are the units on which a page stands then: one that was taken and left is in neither.
pub record MakesDraft (w : Width) (rows : Rows) (c : List ℕ) (layouts : List ℕ → Option Layout) (units : List ℕ) (held : Held) (d : CollDraft)
    (plan : Plan) : Type 0 where
  pub difference : List RowOp
  pub flips : List RowOp
  pub ops_are : plan.ops ≡ difference ++ flips
  pub in_order : KeysAscend difference
  pub changes : AllByRecursion (Changes rows) difference
  pub gets : GetsDraft w rows (rows_after rows difference) c layouts units held d
  pub takings : List ℕ
  pub ascend : Ascends takings
  pub are_standing : (taking : ℕ) → Contains takings taking ↔ Stands d taking
  pub fresh : plan.fresh ≡ filled units held takings
  pub are_left : (unit : ℕ) → Contains plan.released unit ↔ (Leaves layouts d unit ⊎ IsFreed w rows d.unshared unit)
  pub left_ascend : Ascends plan.released
  pub turns : TurnsBits (fresh_units plan) plan.released flips

-- A plan of a transaction over rows: it isn't too large, each operation is taken after those before it, the takings take the lowest free units in
-- order, old bytes were read where they are needed, and the plan makes what the operations make of the collection. It makes no blob, and the next
-- number of one is below 2^62.
pub record Plans (w : Width) (change : Change) (rows : Rows) (space : Space) (next : ℕ) (plan : Plan) : Type 0 where
  pub named : IsCollName change.coll
  pub small : is_too_large change ≡ false
  pub layouts : List ℕ → Option Layout
  pub start : CollDraft
  pub begins : Begins w rows change.coll layouts start
  pub taken : AreTaken change.ops start
  pub enough : (with_ops change.ops start).taken ≤ length (free_units space)
  pub read : AreReadAt (places_of change.ops start) plan.read
  pub makes : MakesDraft w rows change.coll layouts (take (with_ops change.ops start).taken (free_units space))
      (held_by plan.read change.ops start none_held) (with_ops change.ops start) plan
  pub csums_fit : AllByRecursion (λ f. crc32c f.bytes < 2 ^ 32) plan.fresh
  pub none_made : plan.new_blobs ≡ 0
  pub low : next + plan.new_blobs ≤ 2 ^ 62
