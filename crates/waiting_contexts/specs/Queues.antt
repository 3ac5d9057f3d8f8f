-- The turns of each collection.
use Rattle.std.specs.Prelude.{◌≡◌, ◌≢◌, ℕ, List, [], unwrap_or}
use Rattle.std.specs.BTreeMap.{get_by}
use Rattle.std.specs.Ordering.{nat_cmp}
use Rattle.std.specs.Cmp.Lexicographic.{slice_cmp}
use Rattle.op_sequencer.specs.declared.sequencer.Turn.{Turn}
use Rattle.waiting_contexts.specs.declared.sequencers.Sequencers.{Sequencers}

-- the turns of a collection: none where it has no sequencer
abbrev pub turns_in : Sequencers → List ℕ → List Turn
turns_in s coll = unwrap_or (get_by (λ name. slice_cmp nat_cmp coll name.items) s.by_coll) []

-- one collection has these turns now, and the others have what they had
pub record ChangesAt (coll : List ℕ) (turns : List Turn) (old new : Sequencers) : Type 0 where
  pub at : turns_in new coll ≡ turns
  pub others : (c : List ℕ) → c ≢ coll → turns_in new c ≡ turns_in old c

abbrev pub SameTurns : Sequencers → Sequencers → Type 0
SameTurns old new = (c : List ℕ) → turns_in new c ≡ turns_in old c
