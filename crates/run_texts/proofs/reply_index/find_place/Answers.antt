use Rattle.std.proofs.Common.{ap, arith}
use Rattle.object_model.specs.declared.book.Entry.{Entry}
use Rattle.run_texts.specs.Prelude.{clients_of}
use Rattle.run_texts.proofs.IndexLemmas.{passed_by, found_at, client_at, as_many}
use Rattle.run_texts.proofs.reply_index.find_place.Goals as goal

pub returns-then-entries-place : goal.returns-then-entries-place
returns-then-entries-place c =
    let entries = c.args.entries.now in
    let client = client_at entries c.loop-place.place c.index-entries-place.result c.loop-place-test.true c.index-entries-place.is in
    found_at (clients_of entries) c.loop-place.place c.args.client c.args.from (omega (arith, c.loop-place-test.true, as_many entries))
    (omega (arith, client, ap (λ (e : Entry). e.client) c.index-entries-place.is, c.if-entries-place.true)) c.loop-place.invariant

pub loop-place-preserved : goal.loop-place-preserved
loop-place-preserved c =
    let entries = c.args.entries.now in
    let client = client_at entries c.loop-place.place c.index-entries-place.result c.loop-place-test.true c.index-entries-place.is in
    passed_by (clients_of entries) c.loop-place.place c.args.client c.args.from (omega (arith, c.loop-place-test.true, as_many entries))
    (omega (arith, client, ap (λ (e : Entry). e.client) c.index-entries-place.is, c.if-entries-place.false)) c.loop-place.invariant
