use Rattle.std.proofs.Common.{◌≡◌, ◌≤◌}
use Rattle.meta_log.specs.Prelude.{width_of}
use Rattle.row_format.specs.Prelude.{coll_key}
use Rattle.run_texts.specs.Prelude.{output}
use Rattle.bstore_top.proofs.DumpWalks.{PrintedColls, rows_above}
use Rattle.bstore_top.proofs.dump_work.walk_store.Given as goal

abbrev pub invariant-colls : goal.invariant-colls
invariant-colls g l = record {
  same : l.kernel.state ≡ l.initial.kernel.state;
  disk : g.D.Device.disk l.kernel.device ≡ g.D.Device.disk l.initial.kernel.device;
  faults : g.D.Device.faults l.initial.kernel.device ≤ g.D.Device.faults l.kernel.device;
  printed : PrintedColls (width_of l.initial.kernel.state.log.sup) (g.D.Device.disk l.initial.kernel.device) l.initial.kernel.state.submitted
      l.initial.text l.text (output (g.K.Sink.written l.initial.out) (g.K.Sink.faults l.initial.out))
      (output (g.K.Sink.written l.out) (g.K.Sink.faults l.out)) l.last;
}

abbrev pub decreases-colls : goal.decreases-colls
decreases-colls g l = rows_above coll_key l.initial.kernel.state.submitted l.last
