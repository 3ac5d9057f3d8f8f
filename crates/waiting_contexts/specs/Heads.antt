-- Places in a heap.
use Rattle.std.specs.Prelude.{ℕ, ◌+◌, ◌<◌, ◌≤◌, ◌==◌, List, [], ◌∷◌, map, if◌then◌else◌}
use Rattle.std.specs.List.{AllByRecursion}
use Rattle.std.specs.Ordering.{nat_cmp}
use Rattle.std.specs.declared.cmp.Reverse.{Reverse}
use Rattle.std.specs.Global.{Global}
use Rattle.std.specs.declared.collections.BinaryHeap.{BinaryHeap}
use Rattle.std.specs.BinaryHeap.{IsHeap, heap_items, heap_capacity}

-- places, and how many there is room for
pub record Heads : Type 0 where
  pub places : List ℕ
  pub room : ℕ

-- how often a place is among these
abbrev pub count_of : ℕ → List ℕ → ℕ
count_of place [] = 0
count_of place (p ∷ ps) = (if p == place then 1 else 0) + count_of place ps

-- it is among them, and none is below it
pub record IsLeast (place : ℕ) (ps : List ℕ) : Type 0 where
  pub among : 0 < count_of place ps
  pub least : AllByRecursion (λ p. place ≤ p) ps

-- the places in a heap, with the room that it has
abbrev pub heads_of : BinaryHeap (Reverse ℕ) Global → Heads
heads_of h = record { places = map (λ (r : Reverse ℕ). r.0) (heap_items h); room = heap_capacity h }

-- the least is on top
abbrev pub LeastOnTop : BinaryHeap (Reverse ℕ) Global → Type 0
LeastOnTop h = IsHeap (λ (x y : Reverse ℕ). nat_cmp y.0 x.0) (heap_items h)
