use Rattle.std.proofs.Common.{ℕ, List, refl, subst}
use Rattle.std.specs.FinMap as finite
use Rattle.std.specs.FinSet as set
use Rattle.bitmap_freelist.specs.Bitmap.{Units}
use Rattle.txn_planner.specs.declared.touched.Touched.{Touched}
use Rattle.txn_planner.specs.Standing.{GetsNumbers, IsPutIn}
use Rattle.txn_planner.proofs.PutPages.{AnyOf, IsPutAt, adds_as, adds_more, adds_whole, all_that_it_got, objects_are}
use Rattle.txn_planner.proofs.standing.standing.Goals as goal

pub loop-entry-preserved : goal.loop-entry-preserved
loop-entry-preserved c =
    let es : List (List ℕ × Touched) = c.entries-entry-items.result.now in
    let e : List ℕ × Touched = c.entry-item.result in
    let s : Units = c.loop-entry.takings in
    let new : Units = c.insert_puts_of.new.takings in
    adds_more IsPutAt es c.loop-entry.entry-index e set.empty s new c.loop-entry-test.true c.loop-entry.invariant
    (subst (λ (x : List ℕ × Touched). GetsNumbers (IsPutAt x) s new) c.entry-item.is c.in_ok-insert_puts_of.ensures)

pub returns : goal.returns
returns c =
    let es : List (List ℕ × Touched) = c.entries-entry-items.result.now in
    let objects = c.args.objects.now in
    let s : Units = c.loop-entry.takings in
    let all : GetsNumbers (IsPutIn objects) set.empty s = adds_as (AnyOf IsPutAt (finite.entries objects)) (IsPutIn objects) set.empty s (objects_are objects)
    (subst (λ (l : List (List ℕ × Touched)). GetsNumbers (AnyOf IsPutAt l) set.empty s) c.entries-entry-items.ensures
    (adds_whole IsPutAt es c.loop-entry.entry-index set.empty s c.loop-entry-test.false c.loop-entry.invariant)) in
    all_that_it_got (IsPutIn objects) set.empty s refl all
