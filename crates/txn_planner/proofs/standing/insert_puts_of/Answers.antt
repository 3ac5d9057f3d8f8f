use Rattle.std.proofs.lemmas.Result.{on_ok_weaker}
use Rattle.txn_planner.specs.Standing.{IsPutBy, IsPutOf}
use Rattle.txn_planner.proofs.PutPages.{adds_as, puts_of}
use Rattle.txn_planner.proofs.standing.insert_puts_of.Goals as goal

pub returns-in-Some : goal.returns-in-Some
returns-in-Some c =
    let t = c.args.touched.now in
    let puts = c.in-Some.draft.puts in
    on_ok_weaker c.insert_puts.result
    (adds_as (IsPutBy puts) (IsPutOf t) c.args.takings.now c.insert_puts.new.takings (puts_of t c.in-Some.draft c.in-Some.is)) c.insert_puts.ensures
