-- What becomes of a page under an edit, by what is known of it.
use Rattle.std.proofs.Common.{◌≡◌, ◌⊎◌, inl, inr, ℕ, Bool, true, false, cond, not, Option, Some, None, is_some, refl, sym, ap, ◌∙◌}
use Rattle.std.specs.Prelude.{◌||◌, ◌&&◌}
use Rattle.std.specs.FinMap as finite
use Rattle.row_format.specs.Prelude.{Place}
use Rattle.plan_drafts.specs.declared.draft.Draft.{Draft}
use Rattle.plan_drafts.specs.declared.fate.Fate.{Fate}
use Rattle.plan_drafts.specs.declared.fate.Fate.TheVariants.{Stays, Hole, Changed, Takes}
use Rattle.plan_drafts.specs.Edits.{covers_whole, is_there, has_bytes_of, fate_there, fate_in, is_left, is_hole, gets_bytes, takes_unit}

-- by whether the range has bytes of it, clears and covers it wholly, and by where it was put and stands
abbrev fate_by : Bool → Bool → Bool → Option ℕ → Option Place → Fate
fate_by touched clears whole put kept = cond (not touched) Stays (cond (clears && whole) Hole (fate_there clears whole put kept))

left_by : (t c w : Bool) (p : Option ℕ) (k : Option Place) → is_left (fate_by t c w p k) ≡ not t
left_by false c w p k = refl
left_by true true true p k = refl
left_by true true false (Some x) k = refl
left_by true true false None (Some y) = refl
left_by true true false None None = refl
left_by true false w (Some x) k = refl
left_by true false w None (Some y) = refl
left_by true false w None None = refl

hole_by : (t c w : Bool) (x : ℕ) (k : Option Place) → is_hole (fate_by t c w (Some x) k) ≡ (t && (c && w))
hole_by false c w x k = refl
hole_by true true true x k = refl
hole_by true true false x k = refl
hole_by true false w x k = refl

uncleared_by : (t c w : Bool) (p : Option ℕ) (k : Option Place) → gets_bytes (fate_by t c w p k) ≡ true → (c && w) ≡ false
uncleared_by false c w p k is = absurd cc
uncleared_by true true true p k is = absurd cc
uncleared_by true true false p k is = refl
uncleared_by true false w p k is = refl

not_by : (c w : Bool) (p : Option ℕ) (k : Option Place) → gets_bytes (fate_by true c w p k) ≡ false
    → (c ≡ true) × (((is_some k || is_some p) ≡ false) ⊎ (w ≡ true))
not_by true true p k is = (refl, inr refl)
not_by true false (Some x) k is = absurd cc
not_by true false None (Some y) is = absurd cc
not_by true false None None is = (refl, inl refl)
not_by false w (Some x) k is = absurd cc
not_by false w None (Some y) is = absurd cc
not_by false w None None is = absurd cc

-- what becomes of a page that gets new bytes: it is changed where it was put, or takes a unit
pub data Gets (whole : Bool) (p : Option ℕ) (k : Option Place) (fate : Fate) : Type 0 where
  again : (taking : ℕ) → p ≡ Some taking → fate ≡ Changed taking (not whole) → Gets whole p k fate
  first : p ≡ None → fate ≡ Takes (is_some k && not whole) → Gets whole p k fate

gets_by : (t c w : Bool) (p : Option ℕ) (k : Option Place) → gets_bytes (fate_by t c w p k) ≡ true → Gets w p k (fate_by t c w p k)
gets_by false c w p k is = absurd cc
gets_by true true true p k is = absurd cc
gets_by true true false (Some x) k is = again x refl refl
gets_by true true false None (Some y) is = first refl refl
gets_by true true false None None is = absurd cc
gets_by true false w (Some x) k is = again x refl refl
gets_by true false w None (Some y) is = first refl refl
gets_by true false w None None is = first refl refl

-- where all of it is cleared it gets none
covered_by : (t : Bool) (p : Option ℕ) (k : Option Place) → gets_bytes (fate_by t true true p k) ≡ false
covered_by false p k = refl
covered_by true p k = refl

-- one that stands where it stood, and is in the range with some of its bytes, takes a unit and keeps some of its old ones
reads_by : (c : Bool) (y : Place) → fate_by true c false None (Some y) ≡ Takes true
reads_by true y = refl
reads_by false y = refl

-- where the range is cleared, those in part get new bytes
part_by : (w : Bool) (p : Option ℕ) (k : Option Place) → gets_bytes (fate_by true true w p k) ≡ ((is_some k || is_some p) && not w)
part_by true (Some x) (Some y) = refl
part_by true (Some x) None = refl
part_by true None (Some y) = refl
part_by true None None = refl
part_by false (Some x) (Some y) = refl
part_by false (Some x) None = refl
part_by false None (Some y) = refl
part_by false None None = refl

all_by : (w : Bool) (p : Option ℕ) (k : Option Place) → gets_bytes (fate_by true false w p k) ≡ true
all_by w (Some x) k = refl
all_by w None (Some y) = refl
all_by w None None = refl

-- ---- a page of a draft

module _ (off end : ℕ) (clears : Bool) (d : Draft) (page : ℕ) where
  abbrev touched : Bool
  touched = has_bytes_of off end page

  abbrev whole : Bool
  whole = covers_whole off end page

  abbrev put : Option ℕ
  put = finite.get d.puts page

  abbrev kept : Option Place
  kept = finite.get d.kept page

  abbrev fate : Fate
  fate = fate_in off end clears d page

  abbrev when : Bool → Fate
  when t = fate_by t clears whole put kept

  pub left_is : is_left fate ≡ not touched
  left_is = left_by touched clears whole put kept

  pub hole_is : (taking : ℕ) → put ≡ Some taking → is_hole fate ≡ (touched && (clears && whole))
  hole_is taking is = ap (λ p. is_hole (fate_by touched clears whole p kept)) is ∙ hole_by touched clears whole taking kept

  pub not_cleared : gets_bytes fate ≡ true → (clears && whole) ≡ false
  not_cleared is = uncleared_by touched clears whole put kept is

  pub put_by : gets_bytes fate ≡ true → Gets whole put kept fate
  put_by is = gets_by touched clears whole put kept is

  pub takes_is : gets_bytes fate ≡ true → takes_unit fate ≡ not (finite.contains_key d.puts page)
  takes_is is = elim (put_by is) [
    | again taking put made ↦ ap takes_unit made ∙ sym (ap (λ x. not (is_some x)) put)
    | first none made ↦ ap takes_unit made ∙ sym (ap (λ x. not (is_some x)) none)
  ]

  pub gets_none : clears ≡ true → whole ≡ true → gets_bytes fate ≡ false
  gets_none c w = ap (λ b. gets_bytes (fate_by touched b whole put kept)) c ∙ ap (λ b. gets_bytes (fate_by touched true b put kept)) w
      ∙ covered_by touched put kept

  module _ (has : touched ≡ true) where
    pub gets_not : gets_bytes fate ≡ false → (clears ≡ true) × ((is_there d page ≡ false) ⊎ (whole ≡ true))
    gets_not is = not_by clears whole put kept (sym (ap (λ b. gets_bytes (when b)) has) ∙ is)

    pub reads_old : (place : Place) → whole ≡ false → put ≡ None → kept ≡ Some place → fate ≡ Takes true
    reads_old place part none stands = ap when has ∙ ap (λ w. fate_by true clears w put kept) part ∙ ap (λ p. fate_by true clears false p kept) none
        ∙ ap (fate_by true clears false None) stands ∙ reads_by clears place

    pub gets_part : clears ≡ true → gets_bytes fate ≡ (is_there d page && not whole)
    gets_part c = ap (λ b. gets_bytes (when b)) has ∙ ap (λ b. gets_bytes (fate_by true b whole put kept)) c ∙ part_by whole put kept

    pub gets_all : clears ≡ false → gets_bytes fate ≡ true
    gets_all c = ap (λ b. gets_bytes (when b)) has ∙ ap (λ b. gets_bytes (fate_by true b whole put kept)) c ∙ all_by whole put kept
