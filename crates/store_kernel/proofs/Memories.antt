-- What is in memory, step by step.
use Rattle.std.proofs.Common.{◌≡◌, ℕ, true, Bool, cond, List, Option, Some, None, is_some, refl, sym, ap, ◌∙◌}
use Rattle.std.proofs.Math.Path.{fun_ext}
use Rattle.std.specs.Option.{option_or}
use Rattle.block_device.specs.Prelude.{Disk}
use Rattle.object_model.specs.Prelude.{Change}
use Rattle.plan_rows.specs.declared.plan.FreshUnit.{FreshUnit}
use Rattle.plan_rows.specs.declared.plan.Plan.{Plan}
use Rattle.std.proofs.lemmas.Option.{same_Some}
use Rattle.store_steps.specs.declared.context.Context.{Context}
use Rattle.store_steps.specs.declared.step.Step.TheVariants as step
use Rattle.store_steps.specs.Prelude.{Batch, State, committed_batch, bytes_in, all_fresh, memory_of, is_ready, DoesData, Takes, OpensBatch, DoesFlush, DoesSeal, DoesRecord, DoesSync, DoesCommit, DoesFinish, accepted_with}
use Rattle.run_facts.specs.Prelude.{IsKept}
use Rattle.run_facts.proofs.Prelude.{ready_not_down, ready_by_table, take_none, memory_given, memory_reaped, memory_taken, memory_batch, memory_committed, memory_accepted}

-- ---- steps that leave it

pub data_memory : (s s' : State) (d d' : Disk) → DoesData s d s' d' → memory_of s' ≡ memory_of s
data_memory s s' d d' does = ap memory_of does.after ∙ memory_given _ _ does.ticket s

pub end_memory : (s s' : State) (d d' : Disk) (ok : Bool) → Takes s d ok s' d' → memory_of s' ≡ memory_of s
end_memory s s' d d' ok takes = ap memory_of takes.after ∙ memory_reaped takes.ticket ok s

pub take_memory : (s s' : State) (d d' : Disk) → IsKept s d → is_ready step.Take d.depth s ≡ true → OpensBatch s d s' d' → memory_of s' ≡ memory_of s
take_memory s s' d d' kept ready does =
    let up : s.down ≡ None = ready_not_down s d.depth step.Take refl ready in
    ap memory_of does.after ∙ memory_taken s d kept up (take_none s d.depth (ready_by_table s d.depth step.Take up ready)).0

pub flush_memory : (s s' : State) (d d' : Disk) → DoesFlush s d s' d' → memory_of s' ≡ memory_of s
flush_memory s s' d d' does = ap memory_of does.after ∙ sym (memory_batch s does.batch does.begun)

pub sync_memory : (s s' : State) (d d' : Disk) → DoesSync s d s' d' → memory_of s' ≡ memory_of s
sync_memory s s' d d' does = ap memory_of does.after ∙ sym (memory_batch s does.batch does.begun)

pub seal_memory : (s s' : State) (d d' : Disk) → DoesSeal s d s' d' → memory_of s' ≡ memory_of s
seal_memory s s' d d' does = ap memory_of does.after

pub record_memory : (s s' : State) (d d' : Disk) → DoesRecord s d s' d' → memory_of s' ≡ memory_of s
record_memory s s' d d' does = ap memory_of does.after

pub finish_memory : (s s' : State) (d d' : Disk) → DoesFinish s d s' d' → memory_of s' ≡ memory_of s
finish_memory s s' d d' does = ap memory_of does.after

-- ---- a commit, with which the batch's units go

pub commit_memory : (s s' : State) (d d' : Disk) (b : Batch) (before after : ℕ → Option (List ℕ)) → IsKept s d
    → is_ready step.Commit d.depth s ≡ true → s.batch ≡ Some b → DoesCommit s d s' d' → before ≡ memory_of s
    → ((u : ℕ) → after u ≡ cond (is_some (bytes_in (all_fresh b.contexts) u)) None (before u)) → after ≡ memory_of s'
commit_memory s s' d d' b before after kept ready batch does held goes = fun_ext (λ u. at u) ∙ sym (ap memory_of does.after)
  where
    at : (u : ℕ) → after u ≡ memory_of (committed_batch does.batch s) u
    at u =
        goes u
        ∙ ap (λ (m : ℕ → Option (List ℕ)). cond (is_some (bytes_in (all_fresh b.contexts) u)) None (m u)) held
        ∙ sym (memory_committed s d kept (ready_not_down s d.depth step.Commit refl ready) b batch u)
        ∙ ap (λ (c : Batch). memory_of (committed_batch c s) u) (same_Some b does.batch (sym batch ∙ does.begun))

-- ---- a transaction that is accepted, whose units come

pub accept_memory : (s s' : State) (client line : ℕ) (change : Change) (plan : Plan) (x : Context) (before after : ℕ → Option (List ℕ))
    → s' ≡ accepted_with client line change plan s → x.fresh ≡ plan.fresh → before ≡ memory_of s
    → ((u : ℕ) → after u ≡ option_or (before u) (bytes_in x.fresh u)) → after ≡ memory_of s'
accept_memory s s' client line change plan x before after is fresh held comes = fun_ext (λ u. at u) ∙ sym (ap memory_of is)
  where
    at : (u : ℕ) → after u ≡ memory_of (accepted_with client line change plan s) u
    at u =
        comes u
        ∙ ap (λ (m : ℕ → Option (List ℕ)). option_or (m u) (bytes_in x.fresh u)) held
        ∙ ap (λ (fs : List FreshUnit). option_or (memory_of s u) (bytes_in fs u)) fresh
        ∙ sym (memory_accepted client line change plan s u)
