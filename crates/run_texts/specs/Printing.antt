-- A text on its way to a sink: some of it was taken, some waits.
use Rattle.std.specs.Prelude.{◌≡◌, ℕ, List, ◌++◌, Bool, true, false}
use Rattle.block_device.specs.Prelude.{Rose}
use Rattle.end_points.specs.Sink.{with_bytes}
use Rattle.run_texts.specs.Printed.{Output}

-- the bytes that wait to be written, and whether the sink has failed
pub record Waiting : Type 0 where
  pub bytes : List ℕ
  pub failed : Bool

-- from this output on, the sink has taken a front of the text, and the rest waits
pub record IsPartWritten (start : Output) (text waiting : List ℕ) (now : Output) : Type 0 where
  pub front : List ℕ
  pub all : text ≡ front ++ waiting
  pub written : now.written ≡ with_bytes start.written front
  pub kept : now.faults ≡ start.faults

-- it has taken a front of the text, and has failed
pub record HasStopped (start : Output) (text : List ℕ) (now : Output) : Type 0 where
  pub front : List ℕ
  pub rest : List ℕ
  pub all : text ≡ front ++ rest
  pub written : now.written ≡ with_bytes start.written front
  pub rose : Rose start.faults now.faults

abbrev pub PrintedSoFar : Bool → Output → List ℕ → List ℕ → Output → Type 0
PrintedSoFar false start text waiting now = IsPartWritten start text waiting now
PrintedSoFar true start text waiting now = HasStopped start text now

-- this text was added to what was printed so far
pub record AddsText (text : List ℕ) (before after : Waiting) (old new : Output) : Type 0 where
  pub more : (start : Output) (printed : List ℕ) → PrintedSoFar before.failed start printed before.bytes old
      → PrintedSoFar after.failed start (printed ++ text) after.bytes new
