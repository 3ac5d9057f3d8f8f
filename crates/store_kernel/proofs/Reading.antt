-- What a read needs of the kernel's state.
use Rattle.std.proofs.Common.{◌≡◌, ℕ, List, [], ◌∷◌, map, Option, None, refl, sym, subst, arith}
use Rattle.std.specs.List.{AllByRecursion}
use Rattle.block_device.specs.Prelude.{Disk}
use Rattle.meta_log.specs.Prelude.{width_of}
use Rattle.object_model.specs.Prelude.{Change}
use Rattle.store_image.specs.Prelude.{PageUnit, HasPage, IsDataUnit}
use Rattle.plan_drafts.specs.Prelude.{AsksFor}
use Rattle.page_sources.specs.Prelude.{CanReadPlace, CanReadPlaces}
use Rattle.store_steps.specs.Prelude.{State, memory_of}
use Rattle.run_facts.specs.Prelude.{IsKept}
use Rattle.run_facts.proofs.Prelude.{kept_submitted, page_on_data, readable_now, memory_whole}
use Rattle.crash_facts.proofs.OldBytes.{asked_units}
use Rattle.object_reader.specs.Readable.{IsReadable}

-- no submitted row is bad, and what isn't in memory can be read, where the kernel isn't down
pub readable : (s : State) (d : Disk) (memory : ℕ → Option (List ℕ)) → IsKept s d → s.down ≡ None → memory ≡ memory_of s
    → IsReadable (width_of s.log.sup) memory s.submitted d
readable s d memory kept up same = subst (λ (m : ℕ → Option (List ℕ)). IsReadable (width_of s.log.sup) m s.submitted d) (sym same) (record {
  sup = s.log.sup;
  limits = kept.always.limits;
  good = (kept_submitted s d kept up).good;
  wide = refl;
  units = kept.always.units;
  free = readable_now s d kept up;
  whole = memory_whole s d kept up;
})

-- so can units be read on which pages of submitted rows stand
can_read_each : (s : State) (d : Disk) → IsKept s d → s.down ≡ None → (places : List PageUnit)
    → AllByRecursion (HasPage (width_of s.log.sup) s.submitted) (map (λ on. on.unit) places) → AllByRecursion (CanReadPlace (memory_of s) d) places
can_read_each s d kept up [] have = tt
can_read_each s d kept up (on ∷ places) have =
    let within : IsDataUnit s.log.sup on.unit = page_on_data s d kept up on.unit have.0 in
    ((omega (arith, within.1, kept.always.units), readable_now s d kept up on.unit have.0), can_read_each s d kept up places have.1)

-- and the old bytes that a transaction asks for
pub can_read_places : (s : State) (d : Disk) (memory : ℕ → Option (List ℕ)) (change : Change) (need : ℕ) (places : List PageUnit) → IsKept s d → s.down ≡ None
    → memory ≡ memory_of s → AsksFor (width_of s.log.sup) change s.submitted need places → CanReadPlaces memory d places
can_read_places s d memory change need places kept up same asks =
    subst (λ (m : ℕ → Option (List ℕ)). CanReadPlaces m d places) (sym same) (record {
      units_most = omega (arith, kept.always.units, kept.always.limits.units_most);
      each = can_read_each s d kept up places (asked_units (width_of s.log.sup) change s.submitted need places asks);
      whole = memory_whole s d kept up;
    })
