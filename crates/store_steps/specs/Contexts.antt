-- Contexts one by one, and which of them comes next.
use Rattle.std.specs.Prelude.{ℕ, zero, suc, ◌+◌, ◌==◌, ◌&&◌, not, Bool, List, [], ◌∷◌, ◌++◌, length, map, filter, drop, nat_lt, Option, Some, None, if◌then◌else◌}
use Rattle.std.specs.List.{flat_map}
use Rattle.std.specs.Option.{option_or, option_map_or}
use Rattle.meta_rows.specs.declared.row_op.RowOp.{RowOp}
use Rattle.object_model.specs.Prelude.{any_named}
use Rattle.plan_rows.specs.declared.plan.FreshUnit.{FreshUnit}
use Rattle.store_steps.specs.declared.context.Context.{Context}
use Rattle.store_steps.specs.State.{Batch}

-- the longest front of fresh units that stand one behind the other from this unit on, below an end
abbrev pub run_from : ℕ → ℕ → List FreshUnit → List FreshUnit
run_from unit end [] = []
run_from unit end (f ∷ fs) = if f.unit == unit && nat_lt unit end then f ∷ run_from (unit + 1) end fs else []

-- the bytes of fresh units, one unit's behind the other's
abbrev pub run_bytes : List FreshUnit → List ℕ
run_bytes fs = flat_map (λ f. f.bytes) fs

-- a data write that isn't submitted yet: whose it is, and the units that it is of, one behind the other
pub record Unsent : Type 0 where
  pub place : ℕ
  pub first : FreshUnit
  pub more : List FreshUnit

abbrev pub unsent_units : Unsent → List FreshUnit
unsent_units u = u.first ∷ u.more

-- the next data write of the context at this place, which has these units left: at most 64 of them
abbrev pub run_of : ℕ → List FreshUnit → Option Unsent
run_of place [] = None
run_of place (f ∷ fs) = Some (record { place = place; first = f; more = run_from (f.unit + 1) (f.unit + 64) fs })

-- the next data write of a context, if one is left
abbrev pub unsent : Context → Option Unsent
unsent x = run_of x.place (drop x.given x.fresh)

-- the next data write of the context of least place that has one left
abbrev pub next_unsent : List Context → Option Unsent
next_unsent [] = None
next_unsent (x ∷ xs) = option_or (unsent x) (next_unsent xs)

-- all units of the context have reached the device
abbrev pub is_done : Context → Bool
is_done x = x.done == length x.fresh

-- the names of the collections that a context changes
abbrev pub colls_of : Context → List (List ℕ)
colls_of x = x.coll ∷ []

-- The context that comes next: the one of least place that is done and stands first in each of its collections.
-- The names are of the collections that earlier contexts have.
abbrev pub chosen_behind : List (List ℕ) → List Context → Option Context
chosen_behind names [] = None
chosen_behind names (x ∷ xs) = if is_done x && not (any_named (colls_of x) names) then Some x else chosen_behind (colls_of x ++ names) xs

abbrev pub chosen : List Context → Option Context
chosen xs = chosen_behind [] xs

-- the contexts but for the one at this place
abbrev pub without_context : ℕ → List Context → List Context
without_context place xs = filter (λ x. not (x.place == place)) xs

-- the most contexts of a batch
abbrev pub most_grouped : ℕ
most_grouped = 64

-- The contexts that a batch takes, at most so many: the one that comes next, then the one that comes next among those left, and so on.
abbrev pub choice : ℕ → List Context → List Context
choice zero xs = []
choice (suc most) xs = option_map_or (λ (x : Context). x ∷ choice most (without_context x.place xs)) (chosen xs) []

-- those that it leaves
abbrev pub left_by : ℕ → List Context → List Context
left_by zero xs = xs
left_by (suc most) xs = option_map_or (λ (x : Context). left_by most (without_context x.place xs)) (chosen xs) xs

-- the contexts with a change of the one at this place
abbrev pub with_context : ℕ → (Context → Context) → List Context → List Context
with_context place change xs = map (λ x. if x.place == place then change x else x) xs

-- so many more of its units were given to the device, or have reached it
abbrev pub given_more : ℕ → Context → Context
given_more count x = record x { given = x.given + count }

abbrev pub done_more : ℕ → Context → Context
done_more count x = record x { done = x.done + count }

-- the row operations of a batch: those of its contexts, one after another
abbrev pub batch_ops : Batch → List RowOp
batch_ops b = flat_map (λ x. x.ops) b.contexts

-- the units that come back at its commit
abbrev pub batch_released : Batch → List ℕ
batch_released b = flat_map (λ x. x.released) b.contexts

-- the units of the log that its contexts have reserved
abbrev pub sum_needs : List Context → ℕ
sum_needs [] = 0
sum_needs (x ∷ xs) = x.need + sum_needs xs
