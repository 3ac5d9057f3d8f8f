use Rattle.std.proofs.Common.{Err, List, ℕ, ap, arith, length}
use Rattle.std.proofs.lemmas.Result.{err_from_is_err_and}
use Rattle.store_kernel.specs.declared.step_fail.StepFail.{StepFail}
use Rattle.run_facts.proofs.Prelude.{work_falls, does_well}
use Rattle.client_runs.proofs.ClientLemmas.{able_few}
use Rattle.client_runs.proofs.SteppingLemmas.{given, none_given, drawn_ready, steps_go_on, steps_stop, draws_none}
use Rattle.client_runs.proofs.stepping.next_client.Goals as goal

pub draw-requires : goal.draw-requires
draw-requires g c = omega (
  arith,
  able_few 0 c.steps.clients.all.items,
  ap (λ (l : List ℕ). length l) c.able.ensures,
  ap (λ (l : List ℕ). length l) c.steps.invariant.so_far.tied.clients_are.able,
  c.steps.invariant.so_far.tied.clients_are.few,
)

pub returns-in-None-clause-ran : goal.returns-in-None-clause-ran
returns-in-None-clause-ran g c =
    draws_none _ _ _ _ _ c.steps.clients _ _ c.steps.invariant.so_far _ (none_given _ _ _ _ _ c.able.ensures c.in-None.ensures)

pub make_step-requires-clause-ready : goal.make_step-requires-clause-ready
make_step-requires-clause-ready g c =
    drawn_ready c.steps.clients.able.items _ _ _ c.in-Some-Step.step _
    (given _ _ _ _ _ _ _ c.able.ensures c.in-Some-Step.field-0-is c.in-Some-Step.ensures)

pub steps-smaller : goal.steps-smaller
steps-smaller g c =
    work_falls c.in-Some-Step.step _ _ _ _ c.steps.invariant.kept
    (drawn_ready c.steps.clients.able.items _ _ _ c.in-Some-Step.step _
    (given _ _ _ _ _ _ _ c.able.ensures c.in-Some-Step.field-0-is c.in-Some-Step.ensures))
    (does_well c.in-Some-Step.step _ _ _ _ c.in_ok-make_step-in-Some-Step.ensures.ok)

pub steps-preserved : goal.steps-preserved
steps-preserved g c = record {
  so_far = steps_go_on _ _ _ _ _ c.steps.clients _ _ c.steps.invariant.so_far c.in-Some-Step.step _ c.make_step.new.clients _ _
      (given _ _ _ _ _ _ _ c.able.ensures c.in-Some-Step.field-0-is c.in-Some-Step.ensures)
      c.in_ok-make_step-in-Some-Step.ensures.ok c.make_step.ensures.kept.always.device c.in_ok-make_step-in-Some-Step.ensures.tied
      c.in_ok-make_step-in-Some-Step.ensures.left;
  kept = c.make_step.ensures.kept;
  later = omega (arith, c.steps.invariant.later, c.make_step.ensures.later);
}

pub returns-in_err-make_step-in-Some-Step-clause-ran : goal.returns-in_err-make_step-in-Some-Step-clause-ran
returns-in_err-make_step-in-Some-Step-clause-ran g c =
    let p = err_from_is_err_and c.from_residual.result c.from_residual.ensures.1 in
    rw (p.1, p.2) (steps_stop _ _ _ _ _ c.steps.clients _ _ c.steps.invariant.so_far c.in_err-make_step-in-Some-Step.field-0.0 c.in-Some-Step.step _ _ _
    (given _ _ _ _ _ _ _ c.able.ensures c.in-Some-Step.field-0-is c.in-Some-Step.ensures)
    c.make_step.ensures.kept.always.device
    (λ is. let bad = c.in_err-make_step-in-Some-Step.ensures.fault (ap (λ (e : StepFail). Err e) is) in (bad.0, bad.1))
    (λ is. c.in_err-make_step-in-Some-Step.ensures.memory (ap (λ (e : StepFail). Err e) is)))
