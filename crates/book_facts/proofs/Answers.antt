-- What plain objects make of a transaction that they don't refuse.
use Rattle.std.proofs.Common.{◌≡◌, Bool, true, false, cond, not, Result, Ok, Err, refl}
use Rattle.std.specs.Prelude.{IsOk, IsTrue}
use Rattle.object_model.specs.declared.op.Refusal.{Refusal}
use Rattle.object_model.specs.declared.op.Refusal.TheVariants.{TooBig}
use Rattle.object_model.specs.declared.command.Command.TheVariants as ask
use Rattle.object_model.specs.declared.command.Answer.TheVariants as answer
use Rattle.object_model.specs.Prelude.{Objects, is_too_large, Change, transaction_effect, reply_of, accepted_if, is_refused}

-- it has an effect, and is accepted
carried_out : (large : Bool) (r : Result Objects Refusal) → IsTrue (not (is_refused (accepted_if (cond large (Err TooBig) r))))
    → IsOk r × (accepted_if (cond large (Err TooBig) r) ≡ answer.Accepted)
carried_out true r taken = absurd cc
carried_out false (Ok after) taken = (refl, refl)
carried_out false (Err refusal) taken = absurd cc

module _ (objects : Objects) (change : Change) (taken : IsTrue (not (is_refused (reply_of (ask.Change change) objects)))) where
  pub has_effect : IsOk (transaction_effect change objects)
  has_effect = (carried_out (is_too_large change) (transaction_effect change objects) taken).0

  pub reply_accepted : reply_of (ask.Change change) objects ≡ answer.Accepted
  reply_accepted = (carried_out (is_too_large change) (transaction_effect change objects) taken).1
