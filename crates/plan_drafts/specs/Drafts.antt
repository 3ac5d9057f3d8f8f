-- A collection while a transaction on it is planned: what the operations so far make of it, without a look at rows or at free units.
use Rattle.std.specs.Prelude.{◌≡◌, ℕ, ◌+◌, Bool, true, false, nat_lt, List, [], ◌∷◌, ◌++◌, length, Option, Some, None, is_some, if◌then◌else◌}
use Rattle.std.specs.List.{AllByRecursion, flat_map}
use Rattle.std.specs.Option.{option_map_or}
use Rattle.std.specs.Ordering.{nat_cmp}
use Rattle.std.specs.FinMap as finite
use Rattle.std.specs.FinMap.Entries.{where_key}
use Rattle.object_model.specs.declared.op.Op.{Op}
use Rattle.object_model.specs.declared.op.Op.TheVariants.{MkColl, RmColl, Touch, Write, Zero, Truncate, Remove, SetAttr, RmAttr, Clone, CloneRange, OmapSet, OmapRm, OmapRmRange, OmapHeader}
use Rattle.object_model.specs.declared.op.Refusal.{Refusal}
use Rattle.object_model.specs.declared.op.Refusal.TheVariants.{NoCollection, CollectionExists, NotEmpty, NoObject, TooBig}
use Rattle.object_model.specs.Prelude.{object_limit, is_same, any_value_long}
use Rattle.object_model.specs.Effect.{value_limit}
use Rattle.unit_fields.specs.Prelude.{IsName}
use Rattle.row_format.specs.Prelude.{Place}
use Rattle.store_image.specs.Prelude.{PageUnit}
use Rattle.plan_drafts.specs.declared.draft.Draft.{Draft}
use Rattle.plan_rows.specs.declared.plan.ReadUnit.{ReadUnit}
use Rattle.plan_rows.specs.declared.plan.SlotNo.{SlotNo}
pub use Rattle.plan_rows.specs.Plans.{IsKnownOp, object_of, HasNames}
pub use Rattle.plan_rows.specs.Asks.{IsOnColl}
use Rattle.plan_drafts.specs.Edits.{Edit, edit_of, is_touched, pages_taking, places_read, slots_released, drafted, Held, writes_of, with_writes}
use Rattle.plan_rows.specs.Values.{ValueKey, value_after}

-- ---- operations

-- the transactions that it knows are of these
abbrev pub IsKnown : List Op → Type 0
IsKnown ops = AllByRecursion IsKnownOp ops

-- it is on an object, and known to the store
abbrev pub IsOnObject : Op → Type 0
IsOnObject MkColl = ⊥
IsOnObject RmColl = ⊥
IsOnObject (Clone o to) = ⊥
IsOnObject (CloneRange o to src len dst) = ⊥
IsOnObject op = Unit {0}

-- it goes past the limit of an object or of a value
abbrev pub is_beyond : Op → Bool
is_beyond (Write o off bytes) = nat_lt object_limit (off + length bytes)
is_beyond (Zero o off len) = nat_lt object_limit (off + len)
is_beyond (Truncate o to) = nat_lt object_limit to
is_beyond (SetAttr o name value) = nat_lt value_limit (length value)
is_beyond (OmapSet o pairs) = any_value_long pairs
is_beyond (OmapHeader o value) = nat_lt value_limit (length value)
is_beyond op = false

-- it is refused where its object is missing
abbrev pub needs_object : Op → Bool
needs_object (SetAttr o name value) = true
needs_object (RmAttr o name) = true
needs_object (OmapSet o pairs) = true
needs_object (OmapRm o keys) = true
needs_object (OmapRmRange o first last) = true
needs_object (OmapHeader o value) = true
needs_object op = false

-- ---- one object

-- a missing object has no bytes and no pages
abbrev pub or_new : Option Draft → Draft
or_new None = record { size = 0; kept = finite.empty; puts = finite.empty }
or_new (Some x) = x

-- the edit of an object's pages that an operation is: none where the object goes or stays missing, or where it isn't about its bytes
abbrev pub edit_on : Op → Option Draft → Option Edit
edit_on (Touch o) x = Some (edit_of (Touch o) (or_new x).size)
edit_on (Write o off bytes) x = Some (edit_of (Write o off bytes) (or_new x).size)
edit_on (Zero o off len) x = Some (edit_of (Zero o off len) (or_new x).size)
edit_on (Truncate o to) (Some x) = Some (edit_of (Truncate o to) x.size)
edit_on op x = None

-- the pages that leave their places under it, with these: all where the object goes, else those that the edit touches
abbrev pub pages_left : Op → Option Draft → List (ℕ × Place)
pages_left (Remove o) x = finite.entries (or_new x).kept
pages_left op x = option_map_or (λ e. where_key nat_cmp (is_touched e) (finite.entries (or_new x).kept)) (edit_on op x) []

-- ---- the collection

-- Whether it is there; its objects, each missing or so long and with its pages there; their values; how many units were taken; the slots that
-- pages left, one for each page; and on which unit each place is, which no operation changes.
pub record CollDraft : Type 0 where
  pub there : Bool
  pub layout : List ℕ → Option Draft
  pub value : List ℕ → ValueKey → Option (List ℕ)
  pub taken : ℕ
  pub unshared : List SlotNo
  pub on : Place → PageUnit

-- ---- what one operation makes of it

-- the object of the operation, as it is before it
abbrev pub object_before : Op → CollDraft → Option Draft
object_before op d = d.layout (object_of op)

-- what the operation makes of its object: it goes, is edited, or stays as it is
abbrev pub draft_after : Op → CollDraft → Option Draft
draft_after (Remove o) d = None
draft_after op d = option_map_or (λ e. Some (drafted e d.taken (or_new (object_before op d)))) (edit_on op (object_before op d)) (object_before op d)

-- and of that object's values
abbrev pub values_on : Op → CollDraft → ValueKey → Option (List ℕ)
values_on op d k = value_after op k (d.value (object_of op) k)

-- how many units it takes, the places whose old bytes it needs, and what is written
abbrev pub units_on : Op → CollDraft → ℕ
units_on op d = option_map_or (λ e. length (pages_taking e (or_new (object_before op d)))) (edit_on op (object_before op d)) 0

abbrev pub places_on : Op → CollDraft → List PageUnit
places_on op d = option_map_or (λ e. places_read d.on e (or_new (object_before op d))) (edit_on op (object_before op d)) []

abbrev pub writes_on : Op → List ReadUnit → Held → CollDraft → List (ℕ × List ℕ)
writes_on op read held d = option_map_or (λ e. writes_of d.on e read held d.taken (or_new (object_before op d))) (edit_on op (object_before op d)) []

-- the slots that pages leave
abbrev pub slots_on : Op → CollDraft → List SlotNo
slots_on op d = flat_map (λ p. slots_released p.1) (pages_left op (object_before op d))

abbrev pub there_after : Op → Bool → Bool
there_after MkColl there = true
there_after RmColl there = false
there_after op there = there

-- what is under each name, with this under one
abbrev pub at_name : {X : Type 0} → List ℕ → X → (List ℕ → X) → List ℕ → X
at_name o x all u = if is_same u o then x else all u

-- after an operation
abbrev pub with_op : Op → CollDraft → CollDraft
with_op op d = record {
  there = there_after op d.there;
  layout = at_name (object_of op) (draft_after op d) d.layout;
  value = at_name (object_of op) (values_on op d) d.value;
  taken = d.taken + units_on op d;
  unshared = d.unshared ++ slots_on op d;
  on = d.on;
}

-- after operations, one after the other
abbrev pub with_ops : List Op → CollDraft → CollDraft
with_ops [] d = d
with_ops (op ∷ ops) d = with_ops ops (with_op op d)

-- the places whose old bytes they need, in the order of operations and pages
abbrev pub places_of : List Op → CollDraft → List PageUnit
places_of [] d = []
places_of (op ∷ ops) d = places_on op d ++ places_of ops (with_op op d)

-- what the units that are taken are to hold after an operation, and after operations
abbrev pub held_after : List ReadUnit → Op → CollDraft → Held → Held
held_after read op d held = with_writes (writes_on op read held d) held

abbrev pub held_by : List ReadUnit → List Op → CollDraft → Held → Held
held_by read [] d held = held
held_by read (op ∷ ops) d held = held_by read ops (with_op op d) (held_after read op d held)

-- before the first
abbrev pub none_held : Held
none_held taking = []

-- ---- what is accepted, and what is refused

-- an operation on an object is taken: the collection is there, and the object where it has to be; and it keeps the limits
pub record IsTakenOn (d : CollDraft) (op : Op) : Type 0 where
  pub there : d.there ≡ true
  pub named : IsName (object_of op)
  pub names : HasNames op
  pub within : is_beyond op ≡ false
  pub found : needs_object op ≡ true → is_some (d.layout (object_of op)) ≡ true

-- there is no object
abbrev pub IsBare : CollDraft → Type 0
IsBare d = (o : List ℕ) → IsName o → d.layout o ≡ None

-- One that the store doesn't know is never taken.
abbrev pub IsTaken : CollDraft → Op → Type 0
IsTaken d MkColl = d.there ≡ false
IsTaken d RmColl = (d.there ≡ true) × IsBare d
IsTaken d (Clone o to) = ⊥
IsTaken d (CloneRange o to src len dst) = ⊥
IsTaken d op = IsTakenOn d op

-- all are taken, each after those before it
abbrev pub AreTaken : List Op → CollDraft → Type 0
AreTaken [] d = Unit {0}
AreTaken (op ∷ ops) d = IsTaken d op × AreTaken ops (with_op op d)

-- an object is there
pub record HasSome (d : CollDraft) : Type 0 where
  pub object : List ℕ
  pub named : IsName object
  pub there : is_some (d.layout object) ≡ true

-- Why an operation is refused: the first of these that holds.
pub data IsRefused (d : CollDraft) (op : Op) : Refusal → Type 0 where
  exists : op ≡ MkColl → d.there ≡ true → IsRefused d op CollectionExists
  absent : ¬ (op ≡ MkColl) → d.there ≡ false → IsRefused d op NoCollection
  occupied : op ≡ RmColl → d.there ≡ true → HasSome d → IsRefused d op NotEmpty
  beyond : IsOnObject op → d.there ≡ true → is_beyond op ≡ true → IsRefused d op TooBig
  lost : IsOnObject op → d.there ≡ true → is_beyond op ≡ false → needs_object op ≡ true → d.layout (object_of op) ≡ None
      → IsRefused d op NoObject

-- and the first that is refused of operations
pub data AreRefused : List Op → CollDraft → Refusal → Type 0 where
  here : (op : Op) (ops : List Op) (d : CollDraft) (refusal : Refusal) → IsRefused d op refusal → AreRefused (op ∷ ops) d refusal
  later : (op : Op) (ops : List Op) (d : CollDraft) (refusal : Refusal) → IsTaken d op → AreRefused ops (with_op op d) refusal
      → AreRefused (op ∷ ops) d refusal
