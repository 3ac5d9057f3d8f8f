-- The data write that comes next, as the code makes it.
use Rattle.std.specs.Prelude.{◌≡◌, ℕ, List, Option, Some, take, length, MatchOption}
use Rattle.plan_rows.specs.declared.plan.FreshUnit.{FreshUnit}
use Rattle.store_steps.specs.Prelude.{Unsent, unsent_units, run_of, run_bytes}
use Rattle.txn_states.specs.declared.next_write.NextWrite.{NextWrite}

-- the first so many of these units are those of the next write
abbrev pub IsRunOf : List FreshUnit → ℕ → Type 0
IsRunOf fresh count = MatchOption (run_of 0 fresh) (count ≡ 0) (λ run. take count fresh ≡ unsent_units run)

-- the write is this one
pub record IsWrite (unsent : Option Unsent) (w : NextWrite) : Type 0 where
  pub next : Unsent
  pub is_next : unsent ≡ Some next
  pub place : w.place ≡ next.place
  pub unit : w.unit ≡ next.first.unit
  pub count : w.count ≡ length (unsent_units next)
  pub bytes : w.bytes.items ≡ run_bytes (unsent_units next)
