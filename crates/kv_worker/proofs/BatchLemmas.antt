-- The record of a batch, and the log behind it.
use Rattle.std.proofs.Common.{◌≡◌, ◌-◌, ◌≤◌, List, Option, sym, subst}
use Rattle.std.specs.Prelude.{MatchOption}
use Rattle.meta_store.specs.Store.{Meta, Begun, IsAllWritten, piece_count_of}
use Rattle.store_steps.specs.declared.context.Context.{Context}
use Rattle.store_steps.specs.Prelude.{sum_needs}
use Rattle.kv_worker.specs.Batches.{CanCommit}

pub all_written : (xs : List Context) (m : Meta) → CanCommit xs m → IsAllWritten m
all_written xs m can = subst (λ (o : Option Begun). MatchOption o ⊥ (λ (b : Begun). b.written ≡ piece_count_of m b)) (sym can.begun) can.written

-- what all but the last ones needed is used
pub record IsUsedBut (all left : List Context) (m now : Meta) : Type 0 where
  pub reserved : sum_needs left ≤ now.reserved
  pub is : (record now { reserved = now.reserved - sum_needs left }) ≡ (record m { reserved = m.reserved - sum_needs all })
