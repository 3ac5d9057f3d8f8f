-- The context that the next batch takes: all of its units have reached the device, and none before it has a name of it.
use Rattle.std.proofs.Common.{◌≡◌, ◌&&◌, ◌||◌, Bool, true, false, cond, not, List, [], ◌∷◌, ◌++◌, length, Some, refl, ap, subst, ◌∙◌}
use Rattle.flight_facts.proofs.Common.{eqb-true, same_Some, Context}
use Rattle.std.proofs.lemmas.Bool.{or_parts}
use Rattle.std.specs.Prelude.{ℕ}
use Rattle.object_model.specs.Prelude.{is_same, is_named, any_named}
use Rattle.object_model.proofs.Names.{none_common}
use Rattle.selections.specs.Fair.{under}
use Rattle.store_steps.specs.Prelude.{is_done, colls_of, chosen_behind, intent_of, intents, is_in}

-- it stands among those that wait, and those before it have other names; so have these, which were taken before
pub record IsFirst (names : List (List ℕ)) (x : Context) (xs : List Context) : Type 0 where
  pub front : List Context
  pub back : List Context
  pub is : xs ≡ front ++ x ∷ back
  pub done : x.done ≡ length x.fresh
  pub first : (n : List ℕ) → is_named n (colls_of x) ≡ true → under is_in n (intents front) ≡ []
  pub free : (n : List ℕ) → is_named n (colls_of x) ≡ true → is_named n names ≡ false

named_parts : (n : List ℕ) (xs ys : List (List ℕ)) → is_named n (xs ++ ys) ≡ false → (is_named n xs ≡ false) × (is_named n ys ≡ false)
named_parts n [] ys is = (refl, is)
named_parts n (x ∷ xs) ys is =
    let both = or_parts (is_named n (xs ++ ys)) (is_same n x) is in
    let rest = named_parts n xs ys both.0 in
    (ap (λ (b : Bool). b || is_same n x) rest.0 ∙ both.1, rest.1)

pub chosen_first : (names : List (List ℕ)) (xs : List Context) (x : Context) → chosen_behind names xs ≡ Some x → IsFirst names x xs
chosen_first names [] x is = absurd (cc)
chosen_first names (y ∷ ys) x is = of_test (λ e. chosen_first (colls_of y ++ names) ys x e) (is_done y) refl (any_named (colls_of y) names) refl is
  where
    behind : IsFirst (colls_of y ++ names) x ys → IsFirst names x (y ∷ ys)
    behind rest = record {
      front = y ∷ rest.front;
      back = rest.back;
      is = ap (λ (zs : List Context). y ∷ zs) rest.is;
      done = rest.done;
      first = λ n on. ap (λ (b : Bool). cond b (intent_of y ∷ under is_in n (intents rest.front)) (under is_in n (intents rest.front)))
          (named_parts n (colls_of y) names (rest.free n on)).0 ∙ rest.first n on;
      free = λ n on. (named_parts n (colls_of y) names (rest.free n on)).1;
    }

    of_test : (chosen_behind (colls_of y ++ names) ys ≡ Some x → IsFirst (colls_of y ++ names) x ys) → (a : Bool) → is_done y ≡ a → (b : Bool)
        → any_named (colls_of y) names ≡ b → cond (a && not b) (Some y) (chosen_behind (colls_of y ++ names) ys) ≡ Some x → IsFirst names x (y ∷ ys)
    of_test later true done false apart c = subst (λ (z : Context). IsFirst names z (y ∷ ys)) (same_Some y x c) (record {
      front = [];
      back = ys;
      is = refl;
      done = eqb-true y.done (length y.fresh) done;
      first = λ n on. refl;
      free = λ n on. none_common (colls_of y) names n apart on;
    })
    of_test later true done true apart c = behind (later c)
    of_test later false done b apart c = behind (later c)
