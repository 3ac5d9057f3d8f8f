-- Which writes are stable and which units are dirty, as tests.
use Rattle.std.specs.Prelude.{ℕ, ◌+◌, ◌*◌, ◌==◌, nat_lt, nat_le, if◌then◌else◌, Bool, true, false, not, ◌&&◌, List, [], ◌∷◌, length, take}
use Rattle.std.specs.List.{list_any}
use Rattle.block_device.specs.declared.event.Event.{Event}
use Rattle.block_device.specs.declared.event.Event.TheVariants.{Write, Flush, Done}

-- the first place, from n on, at which the test holds, or else the end
abbrev pub first_place : (ℕ → Event → Bool) → ℕ → List Event → ℕ
first_place test n [] = n
first_place test n (event ∷ log) = (if test n event then n else first_place test (n + 1) log)

-- the bytes laid at unit `at` cover unit k
abbrev pub covers : ℕ → List ℕ → ℕ → Bool
covers at bytes k = nat_le at k && nat_lt (4096 * k) (4096 * at + length bytes)

-- the event is a write that covers unit k
abbrev pub writes_unit : ℕ → Event → Bool
writes_unit k (Write at bytes) = covers at bytes k
writes_unit k Flush = false
writes_unit k (Done ticket ok) = false

-- the event is a flush
abbrev pub is_flush : Event → Bool
is_flush (Write at bytes) = false
is_flush Flush = true
is_flush (Done ticket ok) = false

-- the event is a good Done of the ticket
abbrev pub is_good_done : ℕ → Event → Bool
is_good_done ticket (Write at bytes) = false
is_good_done ticket Flush = false
is_good_done ticket (Done done ok) = (done == ticket) && ok

-- the ticket has a good Done
abbrev pub has_good_done : ℕ → List Event → Bool
has_good_done ticket log = list_any (is_good_done ticket) log

-- some flush that was submitted after the write's good Done has a good Done itself
abbrev pub is_stable : List Event → ℕ → Bool
is_stable log write =
    nat_lt (first_place (λ flush event. is_flush event && (has_good_done write (take flush log) && has_good_done flush log)) 0 log) (length log)

-- the place of the first write of unit k that is not stable, or else the end of the log
abbrev pub first_unstable : List Event → ℕ → ℕ
first_unstable log k = first_place (λ place event. writes_unit k event && not (is_stable log place)) 0 log

-- some write that covers unit k is not stable
abbrev pub is_dirty : List Event → ℕ → Bool
is_dirty log k = nat_lt (first_unstable log k) (length log)
