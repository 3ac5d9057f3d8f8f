use Rattle.bstore_top.proofs.DumpLaws.{dump_opened}
use Rattle.bstore_top.proofs.dump_work.dump_store.Goals as goal

pub returns-clause-prints : goal.returns-clause-prints
returns-clause-prints g c =
    let seen = c.dump_on-end.ensures.prints in
    record {
      colls = seen.colls;
      course = dump_opened c.args.dev.now _ _ _ _ _ _ _ _ _ _ (rw c.as_str.ensures at c.in-Ok.ensures.ok) c.units.ensures.sound seen.dumps
          seen.shows c.dump_on-end.ensures.durable;
      printed = seen.printed;
      cut = seen.cut;
    }
