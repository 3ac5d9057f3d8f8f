-- Which calls of a device in memory fail, and how long a submission waits.
use Rattle.std.specs.Prelude.{ℕ, ◌+◌, ◌-◌, ◌^◌, ◌%◌, ◌==◌, min, List, Bool, true, false, ◌&&◌, length, slice_index_or, if◌then◌else◌}
use Rattle.std.specs.List.{list_any}
use Rattle.block_device.specs.declared.kind.Kind.{Kind}
use Rattle.block_device.specs.declared.kind.Kind.TheVariants.{Write, Flush, Read}

abbrev pub same_kind : Kind → Kind → Bool
same_kind Write Write = true
same_kind Write Flush = false
same_kind Write Read = false
same_kind Flush Write = false
same_kind Flush Flush = true
same_kind Flush Read = false
same_kind Read Write = false
same_kind Read Flush = false
same_kind Read Read = true

-- the call of this kind and number is listed to fail
abbrev pub is_listed : List (Kind × ℕ) → Kind → ℕ → Bool
is_listed fails kind number = list_any (λ f. same_kind f.0 kind && (f.1 == number)) fails

abbrev pub write_fails : List (Kind × ℕ) → ℕ → Bool
write_fails fails number = is_listed fails Write number

abbrev pub flush_fails : List (Kind × ℕ) → ℕ → Bool
flush_fails fails number = is_listed fails Flush number

abbrev pub read_fails : List (Kind × ℕ) → ℕ → Bool
read_fails fails number = is_listed fails Read number

-- how many reaps the submission of this number waits: the list goes round, and an empty one has no wait
abbrev pub lag_at : List ℕ → ℕ → ℕ
lag_at lags number = slice_index_or lags (number % length lags) 0

-- one more, up to the last number of 64 bits
abbrev pub counted : ℕ → ℕ
counted n = min (n + 1) (2 ^ 64 - 1)

-- the count of faults after a call that may have failed
abbrev pub faults_after : ℕ → Bool → ℕ
faults_after faults ok = (if ok then faults else counted faults)
