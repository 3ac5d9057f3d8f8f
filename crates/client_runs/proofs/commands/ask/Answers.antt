use Rattle.std.proofs.Common.{arith}
use Rattle.std.proofs.lemmas.Result.{err_from_is_err_and}
use Rattle.client_runs.proofs.AskLemmas.{fits_next, room_next, length_took, well_took, count_low, asks_vain, asks_next, asks_memory}
use Rattle.client_runs.proofs.commands.ask.Goals as goal

pub returns-in_err-command-clause-asked : goal.returns-in_err-command-clause-asked
returns-in_err-command-clause-asked g c =
    let p = err_from_is_err_and c.from_residual.result c.from_residual.ensures.1 in
    rw (p.1, p.2) (asks_memory c.args.client c.args.clients.now c.take-line.result _ c.take-line.ensures.taken c.in_err-command.field-0.0 _ _
    c.in_err-command.ensures.fail)

pub make-requires-clause-fits : goal.make-requires-clause-fits
make-requires-clause-fits g c =
    fits_next c.args.client c.args.clients.now.all.items _ c.take-line.result c.take-line.ensures.taken c.in_ok-command.command
    c.in_ok-command.ensures.same c.requires.fits

pub make-requires-clause-room : goal.make-requires-clause-room
make-requires-clause-room g c =
    room_next c.args.client c.args.clients.now.all.items _ c.take-line.result c.take-line.ensures.taken _ c.requires.room

pub returns-in_err-accepted-clause-asked : goal.returns-in_err-accepted-clause-asked
returns-in_err-accepted-clause-asked g c =
    let p = err_from_is_err_and c.from_residual-in_err-accepted.result c.from_residual-in_err-accepted.ensures.1 in
    rw (p.1, p.2) (asks_vain c.args.client c.args.clients.now c.take-line.result _ c.take-line.ensures.taken c.in_ok-command.command
    c.in_ok-command.ensures.same c.in_err-accepted.field-0.0 _ _ _ _ c.in_err-accepted.ensures.made)

pub made-requires-clause-clients : goal.made-requires-clause-clients
made-requires-clause-clients g c = record {
  few = omega (
    arith,
    length_took c.args.client c.args.clients.now.all.items _ c.take-line.result c.take-line.ensures.taken,
    c.requires.tied.clients_are.few,
  );
  well = well_took c.args.client c.args.clients.now.all.items _ c.take-line.result c.take-line.ensures.taken c.requires.tied.clients_are.well;
  able = c.take-line.ensures.able;
}

pub made-requires-clause-room : goal.made-requires-clause-room
made-requires-clause-room g c =
    count_low c.args.client c.args.clients.now.all.items _ c.take-line.result c.take-line.ensures.taken _ c.requires.tied.counts
    (room_next c.args.client c.args.clients.now.all.items _ c.take-line.result c.take-line.ensures.taken _ c.requires.room)

pub returns-clause-asked : goal.returns-clause-asked
returns-clause-asked g c =
    asks_next c.args.client c.args.clients.now c.take-line.result _ c.take-line.ensures.taken c.in_ok-command.command c.in_ok-command.ensures.same
    c.in_ok-accepted.accepted c.made.new.self _ _ _ _ c.facts.ensures.kept c.make.ensures.sound c.requires.tied c.in_ok-accepted.ensures.made
    c.made.ensures.counted c.made.ensures.able
