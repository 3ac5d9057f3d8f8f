-- What a batch would take, and the places that it is chosen from.
use Rattle.std.specs.Prelude.{◌≡◌, ℕ, ◌+◌, ◌≤◌, ◌<◌, ◌^◌, List, [], ◌∷◌, ◌++◌, length, Some, None}
use Rattle.std.specs.List.{flat_map}
use Rattle.meta_rows.specs.Prelude.{ops_bytes}
use Rattle.store_steps.specs.declared.context.Context.{Context}
use Rattle.store_steps.specs.Prelude.{chosen, choice, left_by}
use Rattle.waiting_contexts.specs.declared.choosing.Choice.{Choice}
use Rattle.waiting_contexts.specs.Heads.{Heads, count_of, IsLeast}
use Rattle.waiting_contexts.specs.Ties.{AreHeads}

-- how many these are, and how many bytes their operations are spelled in, where a number can tell
pub record IsChoiceOf (xs : List Context) (c : Choice) : Type 0 where
  pub count : c.count ≡ length xs
  pub bytes : length (ops_bytes (flat_map (λ x. x.ops) xs)) < 2 ^ 64 → c.bytes ≡ length (ops_bytes (flat_map (λ x. x.ops) xs))

-- the places come from elsewhere, each as often
abbrev pub AreSamePlaces : List ℕ → List ℕ → Type 0
AreSamePlaces ps qs = (q : ℕ) → count_of q qs ≡ count_of q ps

-- The least of the places at hand and beside was taken. One that was at hand is kept with those that go back.
pub record TakesLeast (p : ℕ) (hand beside back hand' beside' back' : Heads) : Type 0 where
  pub least : IsLeast p (hand.places ++ beside.places)
  pub rest : (q : ℕ) → count_of q (hand.places ++ beside.places) ≡ count_of q (p ∷ (hand'.places ++ beside'.places))
  pub kept : AreSamePlaces (back.places ++ hand.places) (back'.places ++ hand'.places)
  pub lengths : length back'.places + length hand'.places ≡ length back.places + length hand.places
  pub more : length back'.places ≤ length back.places + 1
  pub fewer : length beside'.places ≤ length beside.places
  pub hand_room : hand.room ≤ hand'.room
  pub beside_room : beside.room ≤ beside'.room
  pub back_room : back.room ≤ back'.room

-- there was none, and what was at hand and what goes back are as they were
pub record FindsNone (hand beside back hand' beside' back' : Heads) : Type 0 where
  pub hand_none : hand.places ≡ []
  pub beside_none : beside.places ≡ []
  pub same_hand : hand' ≡ hand
  pub same_back : back' ≡ back

-- So many were picked: the places of those that come next are at hand and beside, and those at hand come with those that go back to the ones
-- that were there.
pub record ArePickedFrom (xs : List Context) (i : ℕ) (start hand beside back : Heads) : Type 0 where
  pub count : length (choice i xs) ≡ i
  pub heads : AreHeads (hand.places ++ beside.places) (left_by i xs)
  pub kept : AreSamePlaces start.places (back.places ++ hand.places)
  pub lengths : length back.places + length hand.places ≡ length start.places
  pub few : length beside.places ≤ i
  pub few_back : length back.places ≤ i
  pub room : start.room ≤ hand.room

-- how many bytes the operations of a context are spelled in, where a number can tell
abbrev pub AreBytesOf : Context → ℕ → Type 0
AreBytesOf x bytes = length (ops_bytes x.ops) < 2 ^ 64 → bytes ≡ length (ops_bytes x.ops)

-- The context that comes next was picked, where so many were before it, and the one that comes behind it in its collection is beside, if it is done.
pub record PicksOne (xs : List Context) (i bytes : ℕ) (hand beside back hand' beside' back' : Heads) : Type 0 where
  pub context : Context
  pub is_chosen : chosen (left_by i xs) ≡ Some context
  pub bytes_are : AreBytesOf context bytes
  pub heads : AreHeads (hand'.places ++ beside'.places) (left_by (i + 1) xs)
  pub kept : AreSamePlaces (back.places ++ hand.places) (back'.places ++ hand'.places)
  pub lengths : length back'.places + length hand'.places ≡ length back.places + length hand.places
  pub more_back : length back'.places ≤ length back.places + 1
  pub more_beside : length beside'.places ≤ length beside.places + 1
  pub hand_room : hand.room ≤ hand'.room
  pub beside_room : beside.room ≤ beside'.room
  pub back_room : back.room ≤ back'.room

-- none comes next, and what was at hand and what goes back are as they were
pub record PicksNone (xs : List Context) (i : ℕ) (hand beside back hand' beside' back' : Heads) : Type 0 where
  pub none : chosen (left_by i xs) ≡ None
  pub same_hand : hand' ≡ hand
  pub same_back : back' ≡ back
