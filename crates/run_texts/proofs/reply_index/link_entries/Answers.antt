use Rattle.std.proofs.Common.{◌-◌, arith, ap}
use Rattle.run_texts.specs.Prelude.{clients_of}
use Rattle.run_texts.proofs.IndexLemmas.{none_linked, other_linked, client_at, as_many}
use Rattle.run_texts.proofs.reply_index.link_entries.Goals as goal

pub loop-place-init : goal.loop-place-init
loop-place-init c = none_linked c.args.entries.now c.args.next.now c.requires

pub loop-place-preserved : goal.loop-place-preserved
loop-place-preserved c =
    let entries = c.args.entries.now in
    other_linked (clients_of entries) c.loop-place.first c.loop-place.next c.loop-place.place (c.loop-place.place - 1)
    c.index-entries-place.result.client c.loop-place.invariant (omega (arith, c.loop-place-test.true))
    (omega (arith, c.loop-place-test.true, c.loop-place.auto.place, as_many entries))
    (client_at entries (c.loop-place.place - 1) c.index-entries-place.result (omega (arith, c.loop-place-test.true, c.loop-place.auto.place))
    c.index-entries-place.is) (omega (arith, c.if-client-lt-CLIENTS.false, ap (λ e. e.client) c.index-entries-place.is))
