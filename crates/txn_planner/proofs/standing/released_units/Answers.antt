use Rattle.std.proofs.Common.{◌≡◌, ◌↔◌, ◌⊎◌, ℕ, List, Contains, sym, subst, ◌∙◌}
use Rattle.std.proofs.lemmas.List.{take_all}
use Rattle.bitmap_freelist.specs.Bitmap.{Units}
use Rattle.txn_planner.proofs.PutPages.{listed_as, got_both}
use Rattle.txn_planner.proofs.standing.released_units.Goals as goal

pub returns-clause-left : goal.returns-clause-left
returns-clause-left c =
    let us : List ℕ = c.as_slice-number-items.result.now in
    let left : List ℕ = c.args.left.now in
    let freed : List ℕ = c.args.freed.now in
    let none : Units = c.new-set.result in
    let all : Units = c.insert_all-2.new.set in
    let same : c.loop-number.units ≡ us = c.loop-number.invariant ∙ take_all c.loop-number.number-index us c.loop-number-test.false in
    subst (λ (l : List ℕ). (unit : ℕ) → Contains l unit ↔ (Contains left unit ⊎ Contains freed unit)) (sym same)
    (listed_as (λ unit. Contains left unit ⊎ Contains freed unit) us none all c.new-set.ensures
    (got_both (Contains left) (Contains freed) none c.insert_all.new.set all c.in_ok-insert_all.ensures c.in_ok-insert_all-2.ensures)
    c.as_slice-number-items.ensures.units)
