use Rattle.std.proofs.Common.{[], refl}
use Rattle.bstore_top.proofs.DumpLaws.{outcome_durable}
use Rattle.bstore_top.proofs.running.run_dump.Goals as goal

pub returns-clause-durable : goal.returns-clause-durable
returns-clause-durable g c =
    let work = c.dump_store-end in
    rw c.bare.ensures.dev (outcome_durable c.args.dev.now work.result.end work.ensures.prints.colls _ _ [] c.bare.result.book _ _ _ _ refl
    c.bare.ensures.rest.no_book work.ensures.prints.course)
