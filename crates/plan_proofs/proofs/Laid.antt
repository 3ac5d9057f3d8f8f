-- The layout that an object has with the units that were taken: each of its pages stands where it stood, or on the unit of its taking.
use Rattle.std.proofs.Common.{◌≡◌, ℕ, Bool, true, false, cond, T, List, [], ◌∷◌, map, Option, Some, None, refl, sym, ap, subst, ◌∙◌}
use Rattle.std.specs.Prelude.{◌&&◌}
use Rattle.std.specs.Option.{option_map_or}
use Rattle.std.specs.Ordering.{nat_cmp, eq_by_cmp, is_eq, is_lt}
use Rattle.std.specs.declared.cmp.Ordering.{Ordering}
use Rattle.std.specs.declared.cmp.Ordering.TheVariants.{Less, Equal, Greater}
use Rattle.std.specs.FinMap as finite
use Rattle.std.specs.FinMap.{find, is_sorted, entries, entries_sorted, get-entries}
use Rattle.std.specs.FinMap.Entries.{below_all}
use Rattle.number_map.proofs.Laws.{after_insert}
use Rattle.number_map.proofs.Places.{same_number}
use Rattle.row_format.specs.Prelude.{Place}
use Rattle.blob_map.specs.Prelude.{PageMap, with_pages}
use Rattle.plan_drafts.specs.declared.draft.Draft.{Draft}
use Rattle.plan_drafts.specs.Prelude.{Held, place_put, laid}

both : (a b : Bool) → T (a && b) → T a × T b
both true b p = (tt, p)
both false b p = absurd p

less_apart : (r : Ordering) → T (is_lt r) → is_eq r ≡ false
less_apart Less p = refl
less_apart Equal p = absurd p
less_apart Greater p = absurd p

tied : (r : Ordering) → is_eq r ≡ true → r ≡ Equal
tied Less p = absurd cc
tied Equal p = refl
tied Greater p = absurd cc

none_behind : (n : ℕ) (es : List (ℕ × ℕ)) → T (below_all nat_cmp n es) → find nat_cmp n es ≡ None
none_behind n [] below = refl
none_behind n (e ∷ es) below =
    let parts = both (is_lt (nat_cmp n e.0)) (below_all nat_cmp n es) below in
    ap (λ b. cond b (Some e.1) (find nat_cmp n es)) (less_apart (nat_cmp n e.0) parts.0) ∙ none_behind n es parts.1

module _ (place : ℕ → Place) (page : ℕ) where
  abbrev placed : List (ℕ × ℕ) → List (ℕ × Place)
  placed es = map (λ p. (p.0, place p.1)) es

  abbrev found : Option ℕ → Option Place → Option Place
  found x old = option_map_or (λ t. Some (place t)) x old

  put_all : (es : List (ℕ × ℕ)) (m : PageMap) → T (is_sorted nat_cmp es)
      → finite.get (with_pages m (placed es)) page ≡ found (find nat_cmp page es) (finite.get m page)
  put_all [] m sorted = refl
  put_all (e ∷ es) m sorted =
      let parts = both (below_all nat_cmp e.0 es) (is_sorted nat_cmp es) sorted in
      put_all es (finite.insert m e.0 (place e.1)) parts.1 ∙ ap (found (find nat_cmp page es)) (after_insert m e.0 (place e.1) page)
      ∙ by (eq_by_cmp nat_cmp page e.0) refl parts.0
    where
      by : (b : Bool) → eq_by_cmp nat_cmp page e.0 ≡ b → T (below_all nat_cmp e.0 es)
          → found (find nat_cmp page es) (cond b (Some (place e.1)) (finite.get m page)) ≡ found (cond b (Some e.1) (find nat_cmp page es)) (finite.get m page)
      by false p below = refl
      by true p below =
          let none : find nat_cmp page es ≡ None = ap (λ n. find nat_cmp n es) (same_number page e.0 (tied (nat_cmp page e.0) p)) ∙ none_behind e.0 es below in
          ap (λ x. found x (Some (place e.1))) none

-- where a page stands then
pub laid_get : (units : List ℕ) (held : Held) (d : Draft) (page : ℕ)
    → finite.get (laid units held d).pages page
    ≡ option_map_or (λ t. Some (place_put units held t)) (finite.get d.puts page) (finite.get d.kept page)
laid_get units held d page = put_all (place_put units held) page (entries d.puts) d.kept (entries_sorted d.puts)
    ∙ ap (λ x. option_map_or (λ t. Some (place_put units held t)) x (finite.get d.kept page)) (sym (get-entries d.puts page))

-- A page that stands anywhere stands on the unit of its taking, or where it stood.
pub data StandsAt (units : List ℕ) (held : Held) (d : Draft) (page : ℕ) : Place → Type 0 where
  by_taking : (taking : ℕ) → finite.get d.puts page ≡ Some taking → StandsAt units held d page (place_put units held taking)
  as_before : (place : Place) → finite.get d.puts page ≡ None → finite.get d.kept page ≡ Some place → StandsAt units held d page place

pub laid_cases : (units : List ℕ) (held : Held) (d : Draft) (page : ℕ) (place : Place) → finite.get (laid units held d).pages page ≡ Some place
    → StandsAt units held d page place
laid_cases units held d page place is = by (finite.get d.puts page) refl (sym (laid_get units held d page) ∙ is)
  where
    by : (x : Option ℕ) → finite.get d.puts page ≡ x
        → option_map_or (λ t. Some (place_put units held t)) x (finite.get d.kept page) ≡ Some place → StandsAt units held d page place
    by None p e = as_before place p e
    by (Some t) p e = let same : place_put units held t ≡ place = cc in subst (StandsAt units held d page) same (by_taking t p)

pub laid_put : (units : List ℕ) (held : Held) (d : Draft) (page taking : ℕ) → finite.get d.puts page ≡ Some taking
    → finite.get (laid units held d).pages page ≡ Some (place_put units held taking)
laid_put units held d page taking is =
    laid_get units held d page ∙ ap (λ x. option_map_or (λ t. Some (place_put units held t)) x (finite.get d.kept page)) is

pub laid_kept : (units : List ℕ) (held : Held) (d : Draft) (page : ℕ) (place : Place) → finite.get d.puts page ≡ None → finite.get d.kept page ≡ Some place
    → finite.get (laid units held d).pages page ≡ Some place
laid_kept units held d page place none is =
    laid_get units held d page ∙ ap (λ x. option_map_or (λ t. Some (place_put units held t)) x (finite.get d.kept page)) none ∙ is
