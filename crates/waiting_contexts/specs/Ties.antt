-- How the turns of collections, and the places of contexts that a batch may take, are tied to the contexts.
use Rattle.std.specs.Prelude.{◌≡◌, ℕ, ◌≤◌, ◌==◌, Bool, false, List, [], ◌∷◌, length, Option, if◌then◌else◌}
use Rattle.std.specs.Option.{option_map, option_map_or}
use Rattle.object_model.specs.Prelude.{is_named}
use Rattle.op_sequencer.specs.declared.sequencer.Turn.{Turn}
use Rattle.op_sequencer.specs.Turns.{ready}
use Rattle.store_steps.specs.declared.context.Context.{Context}
use Rattle.store_steps.specs.Prelude.{is_done, colls_of}
use Rattle.waiting_contexts.specs.declared.sequencers.Sequencers.{Sequencers}
use Rattle.waiting_contexts.specs.Places.{context_at}
use Rattle.waiting_contexts.specs.Heads.{Heads, count_of}
use Rattle.waiting_contexts.specs.Queues.{turns_in}

-- the turn of a context in its collection
abbrev pub turn_of : Context → Turn
turn_of x = record { place = x.place; done = is_done x }

-- the turns of the contexts of a collection, in their order
abbrev pub turns_of : List ℕ → List Context → List Turn
turns_of coll [] = []
turns_of coll (x ∷ xs) = if is_named coll (colls_of x) then turn_of x ∷ turns_of coll xs else turns_of coll xs

-- the first of the turns has this place, and is done
abbrev pub is_ready_at : ℕ → List Turn → Bool
is_ready_at place turns = option_map_or (λ p. p == place) (ready turns) false

-- the collection of the context at a place
abbrev pub coll_at : ℕ → List Context → Option (List ℕ)
coll_at place xs = option_map (λ x. x.coll) (context_at place xs)

-- the context at a place is done, and the first of its collection
abbrev pub is_head : ℕ → List Context → Bool
is_head place xs = option_map_or (λ c. is_ready_at place (turns_of c xs)) (coll_at place xs) false

-- these are the places of the contexts that are done and first of their collections, each once
abbrev pub AreHeads : List ℕ → List Context → Type 0
AreHeads ps xs = (place : ℕ) → count_of place ps ≡ (if is_head place xs then 1 else 0)

-- the sequencers have the turns of these contexts
abbrev pub HaveTurnsOf : List Context → Sequencers → Type 0
HaveTurnsOf xs s = (c : List ℕ) → turns_in s c ≡ turns_of c xs

-- the sequencers have the turns of the contexts, and the heap has the places that a batch may take, with room for those of all contexts
pub record IsTied (xs : List Context) (s : Sequencers) (h : Heads) : Type 0 where
  pub turns : HaveTurnsOf xs s
  pub heads : AreHeads h.places xs
  pub room : length xs ≤ h.room
