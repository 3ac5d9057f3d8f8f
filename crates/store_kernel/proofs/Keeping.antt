-- Each call keeps what is known of a kernel.
use Rattle.std.proofs.Common.{◌≡◌, inl, inr, ℕ, true, Option, refl, sym, ap, subst, ◌∙◌}
use Rattle.std.proofs.Math.Path.{fun_ext}
use Rattle.block_device.specs.Prelude.{Disk, IsSound}
use Rattle.object_model.specs.Prelude.{Change}
use Rattle.object_model.specs.declared.command.Read.{Read}
use Rattle.object_model.specs.declared.command.Answer.{Answer}
use Rattle.plan_proofs.proofs.PlanLaws.{plans_keep}
use Rattle.store_steps.specs.declared.step.Step.{Step}
use Rattle.store_steps.specs.Prelude.{State, is_ready, Accepts, Refuses, submitting, reading, stepping, DoesOrFails, Submits, AnswersRead, memory_of}
use Rattle.plan_drafts.specs.Prelude.{IsKnown}
use Rattle.write_buffers.specs.declared.buffers.WriteBuffers.{WriteBuffers}
use Rattle.write_buffers.specs.Prelude.{memory_in}
use Rattle.run_facts.proofs.Prelude.{kept_step, kept_accept, kept_refuse, kept_answer}
use Rattle.crash_facts.specs.Store.{KeepsDurable}
use Rattle.crash_facts.proofs.Keeping.{call_keeps}
use Rattle.store_kernel.specs.declared.batch.OpenBatch.{OpenBatch}
use Rattle.store_kernel.specs.Seen.{IsStageOf}
use Rattle.store_kernel.specs.Known.{KnownOfKernel}

pub known_step : (step : Step) (w w' : WriteBuffers) (b b' : Option OpenBatch) (s s' : State) (d d' : Disk) → KnownOfKernel w b s d → is_ready step d.depth s ≡ true
    → DoesOrFails step s d s' d' → IsSound d' → IsStageOf s'.log.begun b' → memory_in w' ≡ memory_of s'
    → KnownOfKernel w' b' s' d'
known_step step w w' b b' s s' d d' known ready does sound stage memory = record {
  kept = kept_step step s s' d d' known.kept ready does sound;
  durable = call_keeps (stepping step) s s' d d' plans_keep known.kept sound known.durable (ready, does);
  stage = stage;
  memory = memory;
}

known_submit : (client line : ℕ) (change : Change) (w : WriteBuffers) (b : Option OpenBatch) (s s' : State) (d : Disk) → KnownOfKernel w b s d → IsKnown change.ops
    → Submits client line change s d s' → KeepsDurable s' d
known_submit client line change w b s s' d known known_ops submits =
    call_keeps (submitting client line change) s s' d d plans_keep known.kept known.kept.always.device known.durable (known_ops, submits, refl)

pub known_accept : (w w' : WriteBuffers) (b : Option OpenBatch) (s s' : State) (d : Disk) (client line : ℕ) (change : Change) → KnownOfKernel w b s d → IsKnown change.ops
    → Accepts client line change s d s' → memory_in w' ≡ memory_of s' → KnownOfKernel w' b s' d
known_accept w w' b s s' d client line change known known_ops accepts memory = record {
  kept = kept_accept plans_keep s s' d client line change known.kept known_ops accepts;
  durable = known_submit client line change w b s s' d known known_ops (inl accepts);
  stage = subst (λ (t : State). IsStageOf t.log.begun b) (sym accepts.after) known.stage;
  memory = memory;
}

pub known_refuse : (w : WriteBuffers) (b : Option OpenBatch) (s s' : State) (d : Disk) (client line : ℕ) (change : Change) (a : Answer) → KnownOfKernel w b s d → IsKnown change.ops
    → Refuses client line change a s d s' → KnownOfKernel w b s' d
known_refuse w b s s' d client line change a known known_ops refuses = record {
  kept = kept_refuse s s' d client line change a known.kept known_ops refuses;
  durable = known_submit client line change w b s s' d known known_ops (inr (inl (a, refuses)));
  stage = subst (λ (t : State). IsStageOf t.log.begun b) (sym refuses.after) known.stage;
  memory = known.memory ∙ sym (ap memory_of refuses.after);
}

-- an answer to a read changes nothing but the book
pub known_answer : (w : WriteBuffers) (b : Option OpenBatch) (s s' : State) (d : Disk) (client line : ℕ) (read : Read) (a : Answer) → KnownOfKernel w b s d
    → AnswersRead client line read a s d s' → KnownOfKernel w b s' d
known_answer w b s s' d client line read a known is = record {
  kept = kept_answer s s' d client line read a known.kept is;
  durable = call_keeps (reading client line read) s s' d d plans_keep known.kept known.kept.always.device known.durable (inl (a, is), refl);
  stage = subst (λ (t : State). IsStageOf t.log.begun b) (sym is.after) known.stage;
  memory = known.memory ∙ sym (ap memory_of is.after);
}

-- buffers in which the same is found
pub known_same : (w w' : WriteBuffers) (b : Option OpenBatch) (s : State) (d : Disk) → KnownOfKernel w b s d
    → ((unit : ℕ) → memory_in w' unit ≡ memory_in w unit) → KnownOfKernel w' b s d
known_same w w' b s d known same =
    record { kept = known.kept; durable = known.durable; stage = known.stage; memory = fun_ext same ∙ known.memory }
