use Rattle.std.proofs.Common.{ℕ, List, get_or, sym, subst}
use Rattle.std.specs.FinMap as finite
use Rattle.bitmap_freelist.specs.Bitmap.{Units}
use Rattle.txn_planner.specs.Standing.{GetsNumbers, IsPutBy}
use Rattle.txn_planner.proofs.PutPages.{AnyOf, IsTaking, adds_one, adds_as, adds_first, adds_more, adds_whole, puts_are}
use Rattle.txn_planner.proofs.standing.insert_puts.Goals as goal

pub loop-entry-init : goal.loop-entry-init
loop-entry-init c = adds_first IsTaking c.args.takings.now

pub loop-entry-preserved : goal.loop-entry-preserved
loop-entry-preserved c =
    let es : List (ℕ × ℕ) = c.entries-entry-items.result.now in
    let e : ℕ × ℕ = get_or es c.loop-entry.entry-index (0, 0) in
    let s : Units = c.loop-entry.takings in
    adds_more IsTaking es c.loop-entry.entry-index (0, 0) c.args.takings.now s c.insert.new.self c.loop-entry-test.true c.loop-entry.invariant
    (subst (GetsNumbers (IsTaking e) s) (sym c.in_ok-insert.ensures.ok) (adds_one s e.1))

pub returns : goal.returns
returns c =
    let es : List (ℕ × ℕ) = c.entries-entry-items.result.now in
    let old : Units = c.args.takings.now in
    let new : Units = c.loop-entry.takings in
    let puts = c.args.puts.now in
    adds_as (AnyOf IsTaking (finite.entries puts)) (IsPutBy puts) old new (puts_are puts)
    (subst (λ (l : List (ℕ × ℕ)). GetsNumbers (AnyOf IsTaking l) old new) c.entries-entry-items.ensures
    (adds_whole IsTaking es c.loop-entry.entry-index old new c.loop-entry-test.false c.loop-entry.invariant))
