use Rattle.std.proofs.Common.{arith, ◌∙◌}
use Rattle.client_runs.proofs.DrawLemmas.{all_ready}
use Rattle.client_runs.proofs.drawing.ready_steps.Goals as goal

pub returns-clause-ready : goal.returns-clause-ready
returns-clause-ready g c =
    c.steps.invariant.so_far
    ∙ all_ready _ _ _ c.steps.step-index c.steps.invariant.table (omega (arith, c.steps.auto.step-index-end)) (omega (arith, c.steps-test.false))
