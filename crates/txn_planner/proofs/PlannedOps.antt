-- Answers of steps: what their calls tell together, and the operations that they are of.
use Rattle.std.proofs.Common.{◌≡◌, ◌≢◌, inl, inr, ℕ, zero, suc, ◌+◌, ◌*◌, ◌<◌, ◌≤◌, false, List, [], ◌∷◌, length, get_or, Option, Result, Ok, Err, refl, sym, ap, subst, ◌∙◌, arith}
use Rattle.std.specs.Result.{OnOk, IfErr}
use Rattle.std.specs.List.{AllByRecursion}
use Rattle.object_model.specs.declared.op.Op.{Op}
use Rattle.object_model.specs.declared.op.Op.TheVariants.{MkColl, RmColl, Touch, Write, Zero, Truncate, Remove, Clone, CloneRange}
use Rattle.object_model.specs.Prelude.{Change, is_too_large}
use Rattle.meta_rows.specs.Prelude.{Rows}
use Rattle.unit_fields.specs.Prelude.{IsName, IsCollName}
use Rattle.unit_fields.specs.declared.width.Width.{Width}
use Rattle.plan_drafts.specs.Prelude.{Layout, none_held, IsKnownOp, IsKnown, IsOnObject, HasNames, object_of}
use Rattle.object_rows.specs.Stores.{AreRowsOfWidth}
use Rattle.page_edits.specs.Writes.{op_at, after_writes, CanBeMade}
use Rattle.txn_planner.specs.declared.fails.PlanFail.{PlanFail}
use Rattle.txn_planner.specs.declared.planning.Planning.{Planning}
use Rattle.txn_planner.specs.Planning.{IsStateOf, first_draft, PlannedTo}
use Rattle.txn_planner.specs.Drafts.{IsPlanRefused}
use Rattle.txn_planner.specs.Steps.{IsFit, IsUnfit, ChangesObject, MakesObject}
use Rattle.txn_planner.proofs.Begun.{ground_there}
use Rattle.txn_planner.proofs.NextPlanned.{object_next, object_fails}

-- ---- results

pub both_ok : {T E A B Q : Type 0} (r : Result T E) → OnOk r A → OnOk r B → (A → B → Q) → OnOk r Q
both_ok (Ok x) a b f = f a b
both_ok (Err e) a b f = tt

pub three_ok : {T E A B C Q : Type 0} (r : Result T E) → OnOk r A → OnOk r B → OnOk r C → (A → B → C → Q) → OnOk r Q
three_ok (Ok x) a b c f = f a b c
three_ok (Err e) a b c f = tt

pub all_ok : {T E A B C D Q : Type 0} (r : Result T E) → OnOk r A → OnOk r B → OnOk r C → OnOk r D → (A → B → C → D → Q) → OnOk r Q
all_ok (Ok x) a b c d f = f a b c d
all_ok (Err e) a b c d f = tt

pub err_weaker : {T E : Type 0} {P Q : E → Type 0} (r : Result T E) → ((e : E) → P e → Q e) → IfErr r P → IfErr r Q
err_weaker (Ok x) f p = tt
err_weaker (Err e) f p = f e p

-- ---- operations

pub known_at : (ops : List Op) (n : ℕ) → n < length ops → IsKnown ops → IsKnownOp (op_at ops n)
known_at [] n lt all = absurd (omega (arith, lt))
known_at (x ∷ ops) zero lt all = all.0
known_at (x ∷ ops) (suc n) lt all = known_at ops n (omega (arith, lt)) all.1

pub on_known : (p : Op) → IsKnownOp p → p ≢ MkColl → p ≢ RmColl → IsOnObject p
on_known MkColl known a b = absurd (a refl)
on_known RmColl known a b = absurd (b refl)
on_known (Clone o to) known a b = absurd known
on_known (CloneRange o to src len dst) known a b = absurd known
on_known p known a b = tt

any_default : (ops : List Op) (n : ℕ) (a b : Op) → n < length ops → get_or ops n a ≡ get_or ops n b
any_default [] n a b lt = absurd (omega (arith, lt))
any_default (x ∷ ops) zero a b lt = refl
any_default (x ∷ ops) (suc n) a b lt = any_default ops n a b (omega (arith, lt))

-- what is found at a place is the operation of this place
pub found_op : (ops found : List Op) (at : ℕ) (op : Op) → at < length ops → found ≡ ops → op ≡ get_or found at op → op_at ops at ≡ op
found_op ops found at op lt same is = any_default ops at MkColl op lt ∙ ap (λ l. get_or l at op) (sym same) ∙ sym is

-- the bytes of an object have no value
pub values_stay : (w : Width) (rows : Rows) (c : List ℕ) (op : Op) (at : ℕ) (old new : Planning) → IsOnObject op → ChangesObject w rows c op at old new
    → new.values ≡ old.values
values_stay w rows c MkColl at old new on h = absurd on
values_stay w rows c RmColl at old new on h = absurd on
values_stay w rows c (Clone o to) at old new on h = absurd on
values_stay w rows c (CloneRange o to src len dst) at old new on h = absurd on
values_stay w rows c (Touch o) at old new on (inl h) = ap (λ (p : Planning). p.values) h.same
values_stay w rows c (Touch o) at old new on (inr h) = h.puts.values
values_stay w rows c (Write o off bytes) at old new on h = h.puts.values
values_stay w rows c (Zero o off len) at old new on h = h.puts.values
values_stay w rows c (Truncate o to) at old new on (inl h) = h.puts.values
values_stay w rows c (Truncate o to) at old new on (inr h) = h.puts.values
values_stay w rows c (Remove o) at old new on h = h.puts.values
values_stay w rows c op at old new on same = ap (λ (p : Planning). p.values) same

-- ---- an operation on an object

module _ (w : Width) (change : Change) (rows : Rows) (good : AreRowsOfWidth w rows) (n : ℕ) (lt : n < length change.ops) (old new : Planning)
    (op : Op) (is : op_at change.ops n ≡ op) (on : IsOnObject op) where
  pub object_step : IsName (object_of op) → HasNames op → IsFit rows change.coll op old → MakesObject w rows change.coll op n old new
      → PlannedTo w change rows n old → PlannedTo w change rows (n + 1) new
  object_step = subst (λ p. IsOnObject p → IsName (object_of p) → HasNames p → IsFit rows change.coll p old → MakesObject w rows change.coll p n old new
      → PlannedTo w change rows n old → PlannedTo w change rows (n + 1) new) is (object_next w change rows good n lt old new) on

  pub object_step_in : (coll : List ℕ) → coll ≡ change.coll → IsName (object_of op) → HasNames op → IsFit rows coll op old
      → MakesObject w rows coll op n old new → PlannedTo w change rows n old → PlannedTo w change rows (n + 1) new
  object_step_in coll same named names fit makes =
      object_step named names (subst (λ c. IsFit rows c op old) same fit) (subst (λ c. MakesObject w rows c op n old new) same makes)

  pub object_fail : (why : PlanFail) → IsUnfit rows change.coll op old why → PlannedTo w change rows n old → IsPlanRefused w change rows why
  object_fail = subst (λ p. IsOnObject p → (why : PlanFail) → IsUnfit rows change.coll p old why → PlannedTo w change rows n old
      → IsPlanRefused w change rows why) is (object_fails w change rows good n lt old new) on

-- the objects have some layouts, and so few units are taken
pub few_by : (w : Width) (rows : Rows) → AreRowsOfWidth w rows → (change : Change) → IsCollName change.coll → IsKnown change.ops
    → is_too_large change ≡ false → (n : ℕ) (p : Planning) → PlannedTo w change rows n p → p.taken ≤ 258 * n
few_by w rows good change coll known small n p planned =
    let g = ground_there w rows good change coll known small in (planned g.0 g.1).few

-- before the first operation
pub first_planned : (w : Width) (change : Change) (rows : Rows) (p : Planning)
    → ((layouts : List ℕ → Option Layout) → IsStateOf rows change.coll layouts (first_draft w rows change.coll layouts) p) → p.writes.items ≡ []
    → p.places.items ≡ [] → p.taken ≡ 0 → PlannedTo w change rows 0 p
first_planned w change rows p state writes places taken layouts ground = record {
  taken = tt;
  state = state layouts;
  few = omega (arith, taken);
  places = places;
  held = λ read whole. ap (λ ws. after_writes change.ops read ws none_held) writes;
  can = subst (λ ws. AllByRecursion (CanBeMade change.ops p.taken) ws) (sym writes) tt;
}
