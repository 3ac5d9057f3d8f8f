-- What printing a text leaves.
use Rattle.std.specs.Prelude.{◌≡◌, ◌⊎◌, ℕ, List, take, Option}
use Rattle.block_device.specs.Prelude.{Rose}
use Rattle.end_points.specs.Sink.{with_bytes}

-- what is seen of a sink: the text that it tells, and its count of faults
pub record Output : Type 0 where
  pub written : Option (List ℕ)
  pub faults : ℕ

-- what is seen of a sink, by its two parts
abbrev pub output : Option (List ℕ) → ℕ → Output
output written faults = record { written = written; faults = faults }

-- the sink took it whole, and did not fail
pub record TookAll (text : List ℕ) (old new : Output) : Type 0 where
  pub written : new.written ≡ with_bytes old.written text
  pub kept : new.faults ≡ old.faults

-- the sink took a front of it, and failed
pub record TookFront (text : List ℕ) (old new : Output) : Type 0 where
  pub count : ℕ
  pub written : new.written ≡ with_bytes old.written (take count text)
  pub rose : Rose old.faults new.faults

-- the sink failed at the text, and the run has status 6
abbrev pub FailedToPrint : List ℕ → ℕ → Output → Output → Type 0
FailedToPrint text status old new = (status ≡ 6) × TookFront text old new

-- the text was printed and the run has this end, or the sink failed
abbrev pub Printed : ℕ → List ℕ → ℕ → Output → Output → Type 0
Printed end text status old new = ((status ≡ end) × TookAll text old new) ⊎ FailedToPrint text status old new
