use Rattle.std.proofs.Common.{◌≡◌, ℕ, List, ◌++◌, drop}
use Rattle.std.specs.List.{flat_map}
use Rattle.row_format.specs.Prelude.{Place}
use Rattle.plan_rows.specs.declared.plan.SlotNo.{SlotNo}
use Rattle.plan_drafts.specs.Prelude.{units_released, slots_released}
use Rattle.txn_planner.proofs.steps.add_left.Given as goal

-- what is there with that of the pages to come is what was there with that of all
pub record AreOfAll (us us0 : List ℕ) (ss ss0 : List SlotNo) (rest pages : List (ℕ × Place)) : Type 0 where
  pub units : us ++ flat_map (λ p. units_released p.1) rest ≡ us0 ++ flat_map (λ p. units_released p.1) pages
  pub slots : ss ++ flat_map (λ p. slots_released p.1) rest ≡ ss0 ++ flat_map (λ p. slots_released p.1) pages

abbrev pub invariant-loop-entry : goal.invariant-loop-entry
invariant-loop-entry l =
    AreOfAll l.left.items l.initial.left.items l.unshared.items l.initial.unshared.items (drop l.entry-index l.pages) l.pages
