-- The units of a range: which are idle, how often each is held, and the free ones.
use Rattle.std.specs.Prelude.{if◌then◌else◌, ◌≡◌, ◌≢◌, ℕ, ◌≤◌, ◌<◌, ◌+◌, ◌-◌, ◌==◌, ◌&&◌, Bool, true, false, List, [], ◌∷◌, map, length, replicate, slice_index, slice_index_or, slice_set, refl}
use Rattle.std.specs.FinSet as set
use Rattle.std.specs.Ordering.{nat_cmp}
use Rattle.std.specs.List.{filter, flat_map, range_with_len}
use Rattle.std.specs.Coded.{Coded, code_by, coded×, coded_ℕ, coded_list, coded_bool}
use Rattle.unit_allocator.specs.declared.allocator.Run.{Run}

-- What callers see of an allocator: the units from `first` on, and for each of them whether it is idle and how many hold it.
pub record Space : Type 0 where
  pub first : ℕ
  pub idle : List Bool
  pub holds : List ℕ

-- a space as a tuple, which a `Model` asks for
abbrev pub coded_space : Coded Space
coded_space = code_by (ℕ × (List Bool × List ℕ)) (coded× coded_ℕ (coded× (coded_list coded_bool) (coded_list coded_ℕ)))
    (λ s. (s.first, (s.idle, s.holds))) (λ p. record { first = p.0; idle = p.1.0; holds = p.1.1 }) (λ _. refl)

-- the place is idle, and nobody holds it
abbrev pub idle_and_unheld : List Bool → List ℕ → ℕ → Bool
idle_and_unheld idle holds i = slice_index_or idle i false && (slice_index holds i == 0)

-- the unit is one of the space
pub record IsWithin (s : Space) (unit : ℕ) : Type 0 where
  pub from : s.first ≤ unit
  pub to : unit < s.first + length s.idle

-- the unit is given to nobody
abbrev pub is_idle : Space → ℕ → Bool
is_idle s unit = slice_index_or s.idle (unit - s.first) false

-- how many hold the unit
abbrev pub holds_of : Space → ℕ → ℕ
holds_of s unit = slice_index s.holds (unit - s.first)

-- the unit is idle, and nobody holds it
abbrev pub is_free : Space → ℕ → Bool
is_free s unit = idle_and_unheld s.idle s.holds (unit - s.first)

-- the free units, ascending
unfoldable pub free_units : Space → List ℕ
free_units s = map (λ i. s.first + i) (filter (idle_and_unheld s.idle s.holds) (range_with_len 0 (length s.idle)))

-- the unit isn't idle any more
abbrev pub taken_one : Space → ℕ → Space
taken_one s unit = record s { idle = slice_set s.idle (unit - s.first) false }

-- the unit is idle again
abbrev pub given_one : Space → ℕ → Space
given_one s unit = record s { idle = slice_set s.idle (unit - s.first) true }

-- units taken one after the other
abbrev pub taken : Space → List ℕ → Space
taken s [] = s
taken s (unit ∷ units) = taken (taken_one s unit) units

-- units given one after the other
abbrev pub given : Space → List ℕ → Space
given s [] = s
given s (unit ∷ units) = given (given_one s unit) units

-- one more holds the unit
abbrev pub held : Space → ℕ → Space
held s unit = record s { holds = slice_set s.holds (unit - s.first) (holds_of s unit + 1) }

-- one less holds the unit
abbrev pub unheld : Space → ℕ → Space
unheld s unit = record s { holds = slice_set s.holds (unit - s.first) (holds_of s unit - 1) }

-- the units of a run, ascending
abbrev pub units_of_run : Run → List ℕ
units_of_run run = range_with_len run.first run.count

-- the units of runs, one run after the other
abbrev pub units_of : List Run → List ℕ
units_of runs = flat_map units_of_run runs

-- so many units from `first` on, none of which is idle or held
abbrev pub no_idle_units : ℕ → ℕ → Space
no_idle_units first count = record { first = first; idle = replicate count false; holds = replicate count 0 }

-- the units of the list that aren't in the set are idle
abbrev pub freed_from : Space → set.FinSet nat_cmp → List ℕ → Space
freed_from s busy [] = s
freed_from s busy (unit ∷ units) = freed_from (if set.contains busy unit then s else given_one s unit) busy units

-- no free unit is below this one, which is free
pub record IsLowestFree (s : Space) (unit : ℕ) : Type 0 where
  pub within : IsWithin s unit
  pub free : is_free s unit ≡ true
  pub least : (v : ℕ) → IsWithin s v → is_free s v ≡ true → unit ≤ v

-- of the units, those other than this one are as free as before
abbrev pub OthersStay : Space → Space → ℕ → Type 0
OthersStay old new unit = (v : ℕ) → IsWithin old v → v ≢ unit → is_free new v ≡ is_free old v
