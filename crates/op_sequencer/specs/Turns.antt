-- The turns of a sequencer, and what each call makes of them.
use Rattle.std.specs.Prelude.{◌≡◌, ℕ, ◌+◌, ◌<◌, ◌≤◌, ◌==◌, ◌||◌, Bool, true, false, List, [], ◌∷◌, map, length, slice_index_or, Option, Some, None, if◌then◌else◌}
use Rattle.std.specs.List.{AllByRecursion}
use Rattle.op_sequencer.specs.declared.sequencer.Turn.{Turn}

-- the places ascend, from this one on
abbrev pub AscendFrom : ℕ → List Turn → Type 0
AscendFrom least [] = Unit {0}
AscendFrom least (t ∷ ts) = (least ≤ t.place) × AscendFrom (t.place + 1) ts

-- the place is above all others
abbrev pub IsAboveTurns : ℕ → List Turn → Type 0
IsAboveTurns place turns = AllByRecursion (λ t. t.place < place) turns

-- a turn has this place
abbrev pub has_turn : ℕ → List Turn → Bool
has_turn place [] = false
has_turn place (t ∷ ts) = (t.place == place) || has_turn place ts

-- the turn of a place stands at an index
pub record IsTurnAt (place index : ℕ) (turns : List Turn) : Type 0 where
  pub within : index < length turns
  pub has : (d : Turn) → (slice_index_or turns index d).place ≡ place

-- the turn, done if it has this place
abbrev pub done_if : ℕ → Turn → Turn
done_if place t = if t.place == place then record t { done = true } else t

-- the turns where the one of this place is done
abbrev pub done_at : ℕ → List Turn → List Turn
done_at place turns = map (done_if place) turns

-- the place of the first, if it is done
abbrev pub ready : List Turn → Option ℕ
ready [] = None
ready (t ∷ ts) = if t.done then Some t.place else None

-- the turns behind the one of this place
abbrev pub behind : ℕ → List Turn → List Turn
behind place [] = []
behind place (t ∷ ts) = if t.place == place then ts else behind place ts

-- the turns without the first, if it is done
abbrev pub without_ready : List Turn → List Turn
without_ready [] = []
without_ready (t ∷ ts) = if t.done then ts else t ∷ ts
