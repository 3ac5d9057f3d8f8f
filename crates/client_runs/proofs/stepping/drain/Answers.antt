use Rattle.std.proofs.Common.{Err, [], ap, arith, refl}
use Rattle.std.proofs.lemmas.Result.{err_from_is_err_and}
use Rattle.store_kernel.specs.declared.step_fail.StepFail.{StepFail}
use Rattle.run_facts.proofs.Prelude.{work_falls, does_well}
use Rattle.client_runs.proofs.SteppingLemmas.{given, drawn_ready, drain_goes_on, drain_stops}
use Rattle.client_runs.proofs.stepping.drain.Goals as goal

pub step-requires : goal.step-requires
step-requires g c =
    drawn_ready [] _ _ _ c.in-Some-Step.step _ (given [] [] _ _ _ _ _ refl c.in-Some-Step.field-0-is c.in-Some-Step.ensures)

pub steps-smaller : goal.steps-smaller
steps-smaller g c =
    work_falls c.in-Some-Step.step _ _ _ _ c.steps.invariant.kept
    (drawn_ready [] _ _ _ c.in-Some-Step.step _ (given [] [] _ _ _ _ _ refl c.in-Some-Step.field-0-is c.in-Some-Step.ensures))
    (does_well c.in-Some-Step.step _ _ _ _ c.in_ok-step-in-Some-Step.ensures.ok)

pub steps-preserved : goal.steps-preserved
steps-preserved g c = record {
  so_far = drain_goes_on _ _ _ _ _ _ c.steps.invariant.so_far c.in-Some-Step.step _ _ _
      (given [] [] _ _ _ _ _ refl c.in-Some-Step.field-0-is c.in-Some-Step.ensures)
      c.in_ok-step-in-Some-Step.ensures.ok c.step.ensures.kept.always.device;
  kept = c.step.ensures.kept;
  later = omega (arith, c.steps.invariant.later, c.step.ensures.later);
}

pub returns-in_err-step-in-Some-Step-clause-ran : goal.returns-in_err-step-in-Some-Step-clause-ran
returns-in_err-step-in-Some-Step-clause-ran g c =
    let p = err_from_is_err_and c.from_residual.result c.from_residual.ensures.1 in
    rw (p.1, p.2) (drain_stops _ _ _ _ _ _ c.steps.invariant.so_far c.in_err-step-in-Some-Step.field-0.0 c.in-Some-Step.step _ _ _
    (given [] [] _ _ _ _ _ refl c.in-Some-Step.field-0-is c.in-Some-Step.ensures)
    c.step.ensures.kept.always.device
    (λ is. let bad = c.in_err-step-in-Some-Step.ensures.fault (ap (λ (e : StepFail). Err e) is) in (bad.0, bad.1))
    (λ is. c.in_err-step-in-Some-Step.ensures.memory (ap (λ (e : StepFail). Err e) is)))
