use Rattle.std.proofs.Common.{ap, ◌∙◌}
use Rattle.std.specs.Prelude.{is_some}
use Rattle.store_steps.specs.declared.context.Context.{Context}
use Rattle.store_steps.specs.Prelude.{unsent}
use Rattle.txn_states.proofs.NextWrites.{write_is_left}
use Rattle.txn_states.proofs.waiting.Waiting.has_unsent.Goals as goal

pub returns : goal.returns
returns c = rw c.len.ensures (write_is_left c.self.inside.context ∙ ap (λ (x : Context). is_some (unsent x)) c.self.view_is)
