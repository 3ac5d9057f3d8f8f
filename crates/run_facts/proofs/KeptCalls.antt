-- Each call keeps what the kernel keeps, and so does a run.
use Rattle.std.proofs.Common.{inl, inr, List, [], ◌∷◌, sym, subst}
use Rattle.run_facts.proofs.Common.{Disk, IsSound, PlansKeep}
use Rattle.store_steps.specs.Prelude.{State, Call, submitting, reading, stepping, Calls, IsRun}
use Rattle.run_facts.specs.Prelude.{IsKept}
use Rattle.run_facts.proofs.Kept.{kept_step, kept_accept, kept_refuse, kept_read}

pub kept_call : (call : Call) (s s' : State) (d d' : Disk) → PlansKeep → IsKept s d → Calls call s d s' d' → IsSound d' → IsKept s' d'
kept_call (submitting client line change) s s' d d' plans kept made sound = subst (IsKept s') (sym made.2) (elim made.1 [
  | inl accepted ↦ kept_accept plans s s' d client line change kept made.0 accepted
  | inr (inl refused) ↦ kept_refuse s s' d client line change refused.0 kept made.0 refused.1
  | inr (inr away) ↦ subst (λ (t : State). IsKept t d) (sym away.same) kept
])
kept_call (reading client line read) s s' d d' plans kept made sound =
    subst (IsKept s') (sym made.1) (kept_read s s' d client line read kept made.0)
kept_call (stepping step) s s' d d' plans kept made sound = kept_step step s s' d d' kept made.0 made.1 sound

pub kept_run : (calls : List Call) (s s' : State) (d d' : Disk) → PlansKeep → IsKept s d → IsRun s d calls s' d' → IsKept s' d'
kept_run [] s s' d d' plans kept run = subst (λ (t : State). IsKept t d') (sym run.0) (subst (IsKept s) (sym run.1) kept)
kept_run (call ∷ calls) s s' d d' plans kept run =
    kept_run calls run.0 s' run.1.0 d' plans (kept_call call s run.0 d run.1.0 plans kept run.1.1.0 run.1.1.1.0) run.1.1.1.1
