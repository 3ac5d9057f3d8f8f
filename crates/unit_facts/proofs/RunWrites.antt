-- A run of fresh units as it is written: which units its write touches, and what they hold then.
use Rattle.std.proofs.Common.{◌≡◌, ◌≢◌, ℕ, suc, ◌+◌, ◌*◌, ◌<◌, ◌≤◌, List, [], ◌∷◌, length, refl, ap, ◌∙◌, arith}
use Rattle.std.specs.List.{AllByRecursion}
use Rattle.byte_maps.specs.Units.{unit_at}
use Rattle.byte_maps.proofs.Prelude.{unit_at-whole, unit_at-append_front, unit_at-append_back}
use Rattle.block_device.specs.Prelude.{last, WritesUnit, History, with_event, last_at}
use Rattle.block_device.specs.declared.event.Event.TheVariants.{Write}
use Rattle.block_device.proofs.QuietLemmas.{written_unit}
use Rattle.plan_rows.specs.declared.plan.FreshUnit.{FreshUnit}
use Rattle.store_steps.specs.Prelude.{run_bytes, IsInRow}
use Rattle.flight_facts.proofs.Prelude.{AreWholeUnits, row_bytes, row_at}
use Rattle.unit_facts.specs.DataUnits.{HeldBytesAreLast}

-- ---- which units it touches

-- none but its own
pub row_spares : (u unit : ℕ) (fs : List FreshUnit) → IsInRow u fs → AreWholeUnits fs → AllByRecursion (λ f. f.unit ≢ unit) fs
    → ¬ WritesUnit unit (Write u (run_bytes fs))
row_spares u unit fs row whole others covers =
    row_at (λ k. k ≢ unit) u fs row others unit (omega (arith, covers.0))
    (below u unit (length fs) (length (run_bytes fs)) covers.1 (row_bytes fs whole)) refl
  where
    below : (u unit count size : ℕ) → 4096 * unit < 4096 * u + size → size ≡ 4096 * count → unit < u + count
    below u unit count size covers is = omega (arith, covers, is)

-- ---- what its units hold then

pub row_held : (h : History) (u : ℕ) (fs : List FreshUnit) → IsInRow u fs → AreWholeUnits fs
    → ((k : ℕ) → k < length fs → last_at h (u + k) ≡ unit_at k (run_bytes fs)) → HeldBytesAreLast h fs
row_held h u [] row whole each = tt
row_held h u (f ∷ fs) row whole each = (
  ap (last_at h) (first f.unit u row.0) ∙ each 0 (omega arith)
      ∙ unit_at-append_front 0 f.bytes (run_bytes fs) (omega (arith, whole.0)) ∙ unit_at-whole f.bytes whole.0,
  row_held h (u + 1) fs row.1 whole.1 (λ k below. ap (last_at h) (later u k) ∙ each (suc k) (omega (arith, below))
      ∙ unit_at-append_back 1 (suc k) k f.bytes (run_bytes fs) (omega (arith, whole.0)) (omega arith)),
)
  where
    first : (unit u : ℕ) → unit ≡ u → unit ≡ u + 0
    first unit u is = omega (arith, is)

    later : (u k : ℕ) → (u + 1) + k ≡ u + suc k
    later u k = omega arith

pub run_held : (h : History) (u : ℕ) (fs : List FreshUnit) → IsInRow u fs → AreWholeUnits fs
    → 4096 * u + length (run_bytes fs) ≤ length (last h.start h.log) → HeldBytesAreLast (with_event h (Write u (run_bytes fs))) fs
run_held h u fs row whole fits = row_held (with_event h (Write u (run_bytes fs))) u fs row whole
    (λ k below. written_unit h u k (run_bytes fs) fits (inside k (length fs) (length (run_bytes fs)) below (row_bytes fs whole)))
  where
    inside : (k count size : ℕ) → k < count → size ≡ 4096 * count → 4096 * k + 4096 ≤ size
    inside k count size below is = omega (arith, below, is)
