-- Calls on a sequencer, one after another.
use Rattle.std.specs.Prelude.{◌≡◌, ℕ, ◌==◌, ◌&&◌, ◌||◌, Bool, true, false, List, [], ◌∷◌, ◌++◌, map}
use Rattle.std.specs.Option.{option_to_list}
use Rattle.std.specs.List.{AllByRecursion}
use Rattle.op_sequencer.specs.declared.sequencer.Turn.{Turn}
use Rattle.op_sequencer.specs.Turns.{IsAboveTurns, has_turn, done_at, ready, without_ready}

-- a call that changes the turns
pub data TurnCall : Type 0 where
  push : (place : ℕ) (done : Bool) → TurnCall
  io_done : (place : ℕ) → TurnCall
  pop_ready : TurnCall

-- the turns after it
abbrev pub turns_after : TurnCall → List Turn → List Turn
turns_after (push place done) turns = turns ++ record { place = place; done = done } ∷ []
turns_after (io_done place) turns = done_at place turns
turns_after pop_ready turns = without_ready turns

-- its condition holds
abbrev pub CanCall : TurnCall → List Turn → Type 0
CanCall (push place done) turns = IsAboveTurns place turns
CanCall (io_done place) turns = has_turn place turns ≡ true
CanCall pop_ready turns = Unit {0}

-- each call's condition holds when it is made
abbrev pub CanRun : List TurnCall → List Turn → Type 0
CanRun [] turns = Unit {0}
CanRun (c ∷ cs) turns = CanCall c turns × CanRun cs (turns_after c turns)

-- the turns after all calls
abbrev pub left : List TurnCall → List Turn → List Turn
left [] turns = turns
left (c ∷ cs) turns = left cs (turns_after c turns)

-- the places that calls push, in order
abbrev pub pushed_by : TurnCall → List ℕ
pushed_by (push place done) = place ∷ []
pushed_by (io_done place) = []
pushed_by pop_ready = []

abbrev pub pushed : List TurnCall → List ℕ
pushed [] = []
pushed (c ∷ cs) = pushed_by c ++ pushed cs

-- the places that they pop, in order
abbrev pub popped_by : TurnCall → List Turn → List ℕ
popped_by (push place done) turns = []
popped_by (io_done place) turns = []
popped_by pop_ready turns = option_to_list (ready turns)

abbrev pub popped : List TurnCall → List Turn → List ℕ
popped [] turns = []
popped (c ∷ cs) turns = popped_by c turns ++ popped cs (turns_after c turns)

-- the call says that the context at this place is done
abbrev pub says_done : ℕ → TurnCall → Bool
says_done place (push p done) = (p == place) && done
says_done place (io_done p) = p == place
says_done place pop_ready = false

abbrev pub one_says_done : ℕ → List TurnCall → Bool
one_says_done place [] = false
one_says_done place (c ∷ cs) = says_done place c || one_says_done place cs

abbrev pub turn_places : List Turn → List ℕ
turn_places turns = map (λ t. t.place) turns

-- What is popped from an empty sequencer is a front of what is pushed: what is left makes up the rest. Each was said to be done. As this is so of
-- each list of calls, it is so of those before a pop.
pub record PopsInOrder (calls : List TurnCall) : Type 0 where
  pub in_order : pushed calls ≡ popped calls [] ++ turn_places (left calls [])
  pub all_done : AllByRecursion (λ p. one_says_done p calls ≡ true) (popped calls [])
