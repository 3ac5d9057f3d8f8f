-- The free units of a store: those whose bits are 0.
use Rattle.std.proofs.Common.{◌≡◌, ◌↔◌, inl, inr, ℕ, ◌^◌, ◌<◌, true, not, Result, Ok, Err, IfOk, sym, ap, subst, ◌∙◌, arith}
use Rattle.std.specs.declared.alloc.AllocError.{AllocError}
use Rattle.std.specs.FinSet as set
use Rattle.std.specs.Ordering.{nat_cmp}
use Rattle.std.proofs.lemmas.Bool.{cases_Bool}
use Rattle.meta_rows.specs.Prelude.{Rows}
use Rattle.meta_log.specs.declared.slot.Super.{Super}
use Rattle.meta_log.specs.Prelude.{IsSuper, data_unit}
use Rattle.store_image.specs.Prelude.{IsDataUnit, IsMarked}
use Rattle.bitmap_freelist.specs.Bitmap.{AreMarked}
use Rattle.unit_allocator.specs.Prelude.{Space, is_free, holds_of}
use Rattle.plan_rows.specs.Prelude.{IsGood}
use Rattle.run_facts.specs.Prelude.{IsSpaceOf}
use Rattle.run_facts.proofs.Prelude.{nothing_is_held, idle_is_free}
use Rattle.store_steps.specs.Prelude.{Found, HoldsAreCounted}
use Rattle.log_replay.specs.Prelude.{HasLowNumbers, AreUnmarkedIdle, AreUnmarkedFree, IsJudged}
use Rattle.log_replay.proofs.NewSpace.{new_space, new_space_is, new_space_free, new_space_unheld}

-- ---- a new allocator

pub made_units : (made : Result Space AllocError) (sup : Super) (first end : ℕ) (busy : set.FinSet nat_cmp) → IsSuper sup → first ≡ data_unit sup → end ≡ sup.units
    → IfOk made (λ space. space ≡ new_space first end busy) → IfOk made (IsSpaceOf sup)
made_units (Ok space) sup first end busy limits from to is = subst (IsSpaceOf sup) (sym is) (new_space_is sup first end busy limits from to)
made_units (Err e) sup first end busy limits from to is = tt

pub made_free : (made : Result Space AllocError) (sup : Super) (first end : ℕ) (busy : set.FinSet nat_cmp) → IsSuper sup → first ≡ data_unit sup → end ≡ sup.units
    → IfOk made (λ space. space ≡ new_space first end busy)
    → IfOk made (λ space. (unit : ℕ) → IsDataUnit sup unit → is_free space unit ≡ not (set.contains busy unit))
made_free (Ok space) sup first end busy limits from to is = λ unit on.
    ap (λ (s : Space). is_free s unit) is ∙ new_space_free sup first end busy limits from to unit on
made_free (Err e) sup first end busy limits from to is = tt

pub made_unheld : (made : Result Space AllocError) (first end : ℕ) (busy : set.FinSet nat_cmp) → IfOk made (λ space. space ≡ new_space first end busy)
    → IfOk made (λ space. (unit : ℕ) → holds_of space unit ≡ 0)
made_unheld (Ok space) first end busy is = λ unit. ap (λ (s : Space). holds_of s unit) is ∙ new_space_unheld first end busy unit
made_unheld (Err e) first end busy is = tt

-- ---- units whose bits are 0

module _ (sup : Super) (rows : Rows) (busy : set.FinSet nat_cmp) (space : Space) (limits : IsSuper sup) (are_marked : AreMarked rows busy)
    (free : (unit : ℕ) → IsDataUnit sup unit → is_free space unit ≡ not (set.contains busy unit)) where
  -- a data unit is one of those that rows can mark
  is_unit : (unit : ℕ) → IsDataUnit sup unit → unit < 2 ^ 32
  is_unit unit on = omega (arith, on.1, limits.units_most)

  out_of_set : (unit : ℕ) → IsDataUnit sup unit → not (set.contains busy unit) ≡ true → ¬ IsMarked rows unit
  out_of_set unit on out marked = absurd (let is = (are_marked unit).1 (is_unit unit on, marked) in cc)

  not_in_set : (unit : ℕ) → ¬ IsMarked rows unit → not (set.contains busy unit) ≡ true
  not_in_set unit none = elim (cases_Bool (set.contains busy unit)) [
    | inl is ↦ absurd (none ((are_marked unit).0 is).1)
    | inr other ↦ ap (λ b. not b) other
  ]

  pub unmarked : (unit : ℕ) → IsDataUnit sup unit → (is_free space unit ≡ true) ↔ (¬ IsMarked rows unit)
  unmarked unit on = (λ is. out_of_set unit on (sym (free unit on) ∙ is), λ none. free unit on ∙ not_in_set unit none)

-- a store on which a kernel can be opened
pub judged : (f : Found) (busy : set.FinSet nat_cmp) (space : Space) → IsSuper f.sup → IsGood f.sup f.rows → AreMarked f.rows busy
    → HasLowNumbers f → IsSpaceOf f.sup space → ((unit : ℕ) → IsDataUnit f.sup unit → is_free space unit ≡ not (set.contains busy unit))
    → ((unit : ℕ) → holds_of space unit ≡ 0) → IsJudged f space
judged f busy space limits good are_marked numbers units free unheld = record {
  good = good;
  numbers = numbers;
  units = units;
  idle = idle;
  held = held;
  unmarked = are_free;
}
  where
    are_free : AreUnmarkedFree f space
    are_free = unmarked f.sup f.rows busy space limits are_marked free

    held : HoldsAreCounted f.sup f.rows space
    held unit on = unheld unit ∙ sym (nothing_is_held f.rows unit)

    idle : AreUnmarkedIdle f space
    idle unit on =
        let same = idle_is_free f.sup f.rows space unit held on in
        (λ is. (are_free unit on).0 (same ∙ is), λ none. sym same ∙ (are_free unit on).1 none)
