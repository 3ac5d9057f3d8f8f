use Rattle.std.proofs.Common.{refl}
use Rattle.client_runs.proofs.StepLemmas.{step_tied_ok}
use Rattle.client_runs.proofs.stepping.make_step.Goals as goal

pub returns-in_default : goal.returns-in_default
returns-in_default g c = record {
  ok = c.step.ensures.ok;
  tied = step_tied_ok _ _ c.step.result c.args.clients.now _ _ c.args.step c.facts.ensures.kept c.requires.ready c.requires.tied
      c.step.ensures.ok c.step.ensures.kept.always.device c.in_default.not-Finish;
  left = refl;
  fault = c.step.ensures.fault;
  memory = c.step.ensures.memory;
  later = c.step.ensures.later;
  kept = c.step.ensures.kept;
}
