use Rattle.std.proofs.Common.{◌≡◌, ◌≤◌}
use Rattle.meta_log.specs.Prelude.{width_of}
use Rattle.row_format.specs.Prelude.{onode_key}
use Rattle.run_texts.specs.Prelude.{output}
use Rattle.bstore_top.proofs.DumpWalks.{PrintedObjects, rows_above}
use Rattle.bstore_top.proofs.dump_work.walk_coll.Given as goal

abbrev pub invariant-objects : goal.invariant-objects
invariant-objects g l = record {
  same : l.kernel.state ≡ l.initial.kernel.state;
  disk : g.D.Device.disk l.kernel.device ≡ g.D.Device.disk l.initial.kernel.device;
  faults : g.D.Device.faults l.initial.kernel.device ≤ g.D.Device.faults l.kernel.device;
  printed : PrintedObjects (width_of l.initial.kernel.state.log.sup) (g.D.Device.disk l.initial.kernel.device) l.initial.kernel.state.submitted
      l.fn.text l.text (output (g.K.Sink.written l.fn.out) (g.K.Sink.faults l.fn.out)) (output (g.K.Sink.written l.out) (g.K.Sink.faults l.out))
      l.coll l.last;
}

abbrev pub decreases-objects : goal.decreases-objects
decreases-objects g l = rows_above (onode_key l.coll) l.initial.kernel.state.submitted l.last
