use Rattle.std.proofs.Common.{arith}
use Rattle.std.proofs.lemmas.Result.{err_from_is_err_and}
use Rattle.client_runs.proofs.ClientRunLemmas.{runs_out, runs_down, can_go_on, runs_on, runs_less, runs_in_vain}
use Rattle.client_runs.proofs.running.run_clients.Goals as goal

pub returns-in-Ok-None-clause-ran : goal.returns-in-Ok-None-clause-ran
returns-in-Ok-None-clause-ran g c =
    runs_out _ _ _ _ _ c.turns.invariant.so_far c.in-Ok-None.field-0 c.next_client.new.generator.x c.next_client.new.clients
    c.next_client.new.kernel.state (g.D.Device.disk c.next_client.new.kernel.device) c.in-Ok-None.field-0-is c.in-Ok-None.ensures.ran

pub ask-requires-clause-able : goal.ask-requires-clause-able
ask-requires-clause-able g c =
    can_go_on _ _ _ _ _ c.turns.invariant.so_far c.in-Ok-Some.client c.in-Ok-Some.field-0 c.next_client.new.generator.x c.next_client.new.clients
    c.next_client.new.kernel.state (g.D.Device.disk c.next_client.new.kernel.device) c.in-Ok-Some.field-0-is c.in-Ok-Some.ensures.ran

pub turns-smaller : goal.turns-smaller
turns-smaller g c =
    runs_less _ _ _ _ _ c.turns.invariant.so_far c.in-Ok-Some.client c.in-Ok-Some.field-0 c.next_client.new.generator.x c.next_client.new.clients
    c.next_client.new.kernel.state (g.D.Device.disk c.next_client.new.kernel.device) c.in-Ok-Some.field-0-is c.in-Ok-Some.ensures.ran
    c.ask.new.clients c.ask.new.kernel.state (g.D.Device.disk c.ask.new.kernel.device) c.in_ok-ask-in-Ok-Some.ensures.asked

pub turns-preserved : goal.turns-preserved
turns-preserved g c = record {
  so_far = runs_on _ _ _ _ _ c.turns.invariant.so_far c.in-Ok-Some.client c.in-Ok-Some.field-0 c.next_client.new.generator.x c.next_client.new.clients
      c.next_client.new.kernel.state (g.D.Device.disk c.next_client.new.kernel.device) c.in-Ok-Some.field-0-is c.in-Ok-Some.ensures.ran
      c.ask.new.clients c.ask.new.kernel.state (g.D.Device.disk c.ask.new.kernel.device) c.in_ok-ask-in-Ok-Some.ensures.asked
      c.in_ok-ask-in-Ok-Some.ensures.sound;
  later = omega (arith, c.turns.invariant.later, c.next_client.ensures.later, c.ask.ensures.later);
}

pub returns-in_err-ask-in-Ok-Some-clause-ran : goal.returns-in_err-ask-in-Ok-Some-clause-ran
returns-in_err-ask-in-Ok-Some-clause-ran g c =
    let p = err_from_is_err_and c.from_residual.result c.from_residual.ensures.1 in
    rw (p.1, p.2) (runs_in_vain _ _ _ _ _ c.turns.invariant.so_far c.in-Ok-Some.client c.in-Ok-Some.field-0 c.next_client.new.generator.x c.next_client.new.clients
    c.next_client.new.kernel.state (g.D.Device.disk c.next_client.new.kernel.device) c.in-Ok-Some.field-0-is c.in-Ok-Some.ensures.ran
    c.in_err-ask-in-Ok-Some.field-0.0 c.ask.new.kernel.state (g.D.Device.disk c.ask.new.kernel.device) c.in_err-ask-in-Ok-Some.ensures.asked)

pub returns-in-Err-clause-ran : goal.returns-in-Err-clause-ran
returns-in-Err-clause-ran g c =
    rw c.run_fail.ensures (runs_down _ _ _ _ _ c.turns.invariant.so_far c.in-Err.fail c.next_client.new.generator.x c.next_client.new.kernel.state
    (g.D.Device.disk c.next_client.new.kernel.device) c.in-Err.ensures.ran)
