use Rattle.std.proofs.Common.{ap, ◌∙◌, not}
use Rattle.store_steps.specs.Prelude.{is_ready, all_steps}
use Rattle.store_kernel.proofs.Opening.{none_ready}
use Rattle.store_kernel.proofs.kernel.Kernel.drained.Goals as goal

pub returns : goal.returns
returns g c = ap not c.any_ready.ensures ∙ none_ready (λ step. is_ready step (g.D.Device.disk c.args.self.now.device).depth c.args.self.now.state) all_steps
