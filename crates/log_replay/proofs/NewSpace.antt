-- The units of a new allocator.
use Rattle.std.proofs.Common.{◌≡◌, ℕ, zero, suc, ◌-◌, Bool, true, false, not, cond, List, [], ◌∷◌, length, replicate, get_or, refl, ap, ◌∙◌, arith}
use Rattle.std.specs.List.{range_with_len}
use Rattle.std.specs.FinSet as set
use Rattle.std.specs.Ordering.{nat_cmp}
use Rattle.std.proofs.Math.ListN.{length-set}
use Rattle.std.proofs.lemmas.List.{length-replicate}
use Rattle.meta_log.specs.declared.slot.Super.{Super}
use Rattle.meta_log.specs.Prelude.{IsSuper, data_unit}
use Rattle.unit_allocator.specs.Prelude.{Space, is_free, holds_of, given_one, freed_from, no_idle_units}
use Rattle.unit_allocator.proofs.Fresh.{new_is_free, new_is_unheld}
use Rattle.store_image.specs.Prelude.{IsDataUnit}
use Rattle.run_facts.specs.Prelude.{IsSpaceOf}

-- a new allocator has the range that it was made for
same_range : (s : Space) (busy : set.FinSet nat_cmp) (units : List ℕ)
    → ((freed_from s busy units).first ≡ s.first) × (length (freed_from s busy units).idle ≡ length s.idle)
same_range s busy [] = (refl, refl)
same_range s busy (u ∷ us) =
    let here = by (set.contains busy u) in
    let rest = same_range (cond (set.contains busy u) s (given_one s u)) busy us in
    (rest.0 ∙ here.0, rest.1 ∙ here.1)
  where
    by : (b : Bool) → ((cond b s (given_one s u)).first ≡ s.first) × (length (cond b s (given_one s u)).idle ≡ length s.idle)
    by true = (refl, refl)
    by false = (refl, length-set s.idle (u - s.first) true)

pub all_alike : (n i x : ℕ) → get_or (replicate n x) i x ≡ x
all_alike zero i x = refl
all_alike (suc n) zero x = refl
all_alike (suc n) (suc i) x = all_alike n i x

-- all data units, none of them busy
abbrev pub new_space : ℕ → ℕ → set.FinSet nat_cmp → Space
new_space first end busy = freed_from (no_idle_units first (end - first)) busy (range_with_len first (end - first))

pub new_space_is : (sup : Super) (first end : ℕ) (busy : set.FinSet nat_cmp) → IsSuper sup → first ≡ data_unit sup → end ≡ sup.units
    → IsSpaceOf sup (new_space first end busy)
new_space_is sup first end busy limits from to =
    let range = same_range (no_idle_units first (end - first)) busy (range_with_len first (end - first)) in
    record {
      first = range.0 ∙ from;
      count = omega (arith, range.1, length-replicate (end - first) false, from, to, limits.room);
    }

-- nobody holds one of them
pub new_space_unheld : (first end : ℕ) (busy : set.FinSet nat_cmp) (unit : ℕ) → holds_of (new_space first end busy) unit ≡ 0
new_space_unheld first end busy unit =
    let at : ℕ = unit - (new_space first end busy).first in
    ap (λ (holds : List ℕ). get_or holds at 0) (new_is_unheld first (end - first) busy) ∙ all_alike (end - first) at 0

-- a data unit is free there exactly where it isn't busy
pub new_space_free : (sup : Super) (first end : ℕ) (busy : set.FinSet nat_cmp) → IsSuper sup → first ≡ data_unit sup → end ≡ sup.units
    → (unit : ℕ) → IsDataUnit sup unit → is_free (new_space first end busy) unit ≡ not (set.contains busy unit)
new_space_free sup first end busy limits from to unit on =
    new_is_free first (end - first) busy unit (omega (arith, from, on.0)) (omega (arith, from, to, on.1, limits.room))
