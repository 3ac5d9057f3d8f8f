-- Contexts whose places ascend: a change of one at a place below all, and its removal, change nothing.
use Rattle.std.proofs.Common.{◌≡◌, ℕ, ◌+◌, ◌<◌, not, Bool, cond, List, [], ◌∷◌, refl, sym, ap, subst, ◌∙◌, arith}
use Rattle.std.specs.Map.{values_of}
use Rattle.std.proofs.lemmas.Bool.{ne_eqb}
use Rattle.store_steps.specs.declared.context.Context.{Context}
use Rattle.store_steps.specs.Prelude.{with_context, without_context}
use Rattle.waiting_contexts.specs.Places.{AreByPlace}
use Rattle.waiting_contexts.specs.Unsent.{PlacesAscend}

pub places_ascend : (least : ℕ) (es : List (ℕ × Context)) → AreByPlace least es → PlacesAscend least (values_of es)
places_ascend least [] by_place = tt
places_ascend least (e ∷ es) by_place =
    (omega (arith, by_place.0, by_place.1), subst (λ (n : ℕ). PlacesAscend (n + 1) (values_of es)) (sym by_place.0) (places_ascend (e.0 + 1) es by_place.2))

pub none_below : (least place : ℕ) (f : Context → Context) (xs : List Context) → PlacesAscend least xs → place < least → with_context place f xs ≡ xs
none_below least place f [] up lt = refl
none_below least place f (x ∷ xs) up lt =
    ap (λ (b : Bool). cond b (f x) x ∷ with_context place f xs) (ne_eqb x.place place (λ e. absurd (omega (arith, e, up.0, lt))))
    ∙ ap (λ (l : List Context). x ∷ l) (none_below (x.place + 1) place f xs up.1 (omega (arith, up.0, lt)))

pub none_goes : (least place : ℕ) (xs : List Context) → PlacesAscend least xs → place < least → without_context place xs ≡ xs
none_goes least place [] up lt = refl
none_goes least place (x ∷ xs) up lt =
    ap (λ (b : Bool). cond (not b) (x ∷ without_context place xs) (without_context place xs)) (ne_eqb x.place place (λ e. absurd (omega (arith, e, up.0, lt))))
    ∙ ap (λ (l : List Context). x ∷ l) (none_goes (x.place + 1) place xs up.1 (omega (arith, up.0, lt)))
