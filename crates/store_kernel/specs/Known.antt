-- What a kernel keeps from call to call.
use Rattle.std.specs.Prelude.{◌≡◌, Option}
use Rattle.block_device.specs.Prelude.{Disk}
use Rattle.store_steps.specs.Prelude.{State, memory_of}
use Rattle.run_facts.specs.Prelude.{IsKept}
use Rattle.crash_facts.specs.Store.{KeepsDurable}
use Rattle.write_buffers.specs.declared.buffers.WriteBuffers.{WriteBuffers}
use Rattle.write_buffers.specs.Prelude.{memory_in}
use Rattle.store_kernel.specs.declared.batch.OpenBatch.{OpenBatch}
use Rattle.store_kernel.specs.Seen.{IsStageOf}

-- Its own facts, and that each crash since the mount began leaves the objects after a front of its commits; how its batch is tied to the record that
-- is being written; and that its buffers are the memory in which reads find what isn't committed.
pub record KnownOfKernel (buffers : WriteBuffers) (batch : Option OpenBatch) (s : State) (d : Disk) : Type 0 where
  pub kept : IsKept s d
  pub durable : KeepsDurable s d
  pub stage : IsStageOf s.log.begun batch
  pub memory : memory_in buffers ≡ memory_of s
