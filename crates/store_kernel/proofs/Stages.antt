-- Whether the batch's record is made, call by call.
use Rattle.std.proofs.Common.{◌≡◌, Option, Some, None, is_some, refl, ◌∙◌}
use Rattle.std.specs.Option.{option_map}
use Rattle.meta_store.specs.Store as meta
use Rattle.store_steps.specs.declared.flight.FlushState.{FlushState}
use Rattle.store_steps.specs.declared.flight.Job.{Job}
use Rattle.store_steps.specs.declared.flight.Job.TheVariants as job
use Rattle.store_kernel.specs.declared.batch.OpenBatch.{OpenBatch}
use Rattle.store_kernel.specs.Seen.{IsStageOf}
use Rattle.store_kernel.specs.Ends.{with_first, with_second, batch_after, meta_after}

-- a flush of it is so far
pub stage_first : (flush : FlushState) (o : Option meta.Begun) (b : Option OpenBatch) → IsStageOf o b → IsStageOf o (option_map (with_first flush) b)
stage_first flush o None stage = stage
stage_first flush o (Some b) stage = stage

pub stage_second : (flush : FlushState) (o : Option meta.Begun) (b : Option OpenBatch) → IsStageOf o b → IsStageOf o (option_map (with_second flush) b)
stage_second flush o None stage = stage
stage_second flush o (Some b) stage = stage

-- so is the record that is being written
still_some : (f : meta.Begun → meta.Begun) (o : Option meta.Begun) → is_some o ≡ is_some (option_map f o)
still_some f None = refl
still_some f (Some r) = refl

stage_record : (f : meta.Begun → meta.Begun) (o : Option meta.Begun) (b : Option OpenBatch) → IsStageOf o b → IsStageOf (option_map f o) b
stage_record f o None stage = stage
stage_record f o (Some b) stage = stage ∙ still_some f o

pub stage_given : (m : meta.Meta) (b : Option OpenBatch) → IsStageOf m.begun b → IsStageOf (meta.with_given m).begun b
stage_given m b stage = stage_record _ m.begun b stage

-- a submission for this job has ended well
pub stage_ended : (j : Job) (m : meta.Meta) (b : Option OpenBatch) → IsStageOf m.begun b → IsStageOf (meta_after j m).begun (batch_after j b)
stage_ended job.DataFlush m b stage = stage_first _ m.begun b stage
stage_ended job.Record m b stage = stage_record _ m.begun b stage
stage_ended job.RecordFlush m b stage = stage_second _ m.begun b stage
stage_ended other m b stage = stage
