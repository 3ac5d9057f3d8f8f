-- The context that a batch takes is that of the least place among those that are done and first in their collections.
use Rattle.std.proofs.Common.{◌≡◌, inl, inr, ◌&&◌, ◌||◌, ℕ, ◌+◌, ◌<◌, ◌≤◌, ◌==◌, not, Bool, true, false, cond, List, [], ◌∷◌, ◌++◌, Option, Some, None, refl, sym, ap, subst, ◌∙◌, arith}
use Rattle.std.specs.Option.{option_map, option_map_or}
use Rattle.std.proofs.lemmas.Option.{same_Some}
use Rattle.std.proofs.lemmas.Bool.{eq-eqb, ne_eqb, eqb-true, or_cases, or_right, and_parts, false≢true, false_from_ne_true}
use Rattle.object_model.specs.Prelude.{is_same, any_named}
use Rattle.object_model.proofs.Names.{same_name, is_same_itself}
use Rattle.store_steps.specs.declared.context.Context.{Context}
use Rattle.store_steps.specs.Prelude.{is_done, colls_of, chosen_behind, chosen}
use Rattle.waiting_contexts.specs.Unsent.{PlacesAscend}
use Rattle.waiting_contexts.specs.Places.{context_at}
use Rattle.waiting_contexts.specs.Ties.{turn_of, turns_of, is_ready_at, coll_at, is_head}

-- ---- the context at a place is done, and none before it has its collection, nor has one of these names it

abbrev pub head_behind : List (List ℕ) → ℕ → List Context → Bool
head_behind names q [] = false
head_behind names q (x ∷ xs) = ((x.place == q) && (is_done x && not (any_named (colls_of x) names))) || head_behind (colls_of x ++ names) q xs

head_from : (least : ℕ) (names : List (List ℕ)) (q : ℕ) (xs : List Context) → PlacesAscend least xs → head_behind names q xs ≡ true → least ≤ q
head_from least names q [] up h = absurd (false≢true h)
head_from least names q (x ∷ xs) up h =
    elim (or_cases ((x.place == q) && (is_done x && not (any_named (colls_of x) names))) (head_behind (colls_of x ++ names) q xs) h) [
      | inl here ↦ omega (arith, up.0, eqb-true x.place q (and_parts (x.place == q) (is_done x && not (any_named (colls_of x) names)) here).0)
      | inr later ↦ omega (arith, up.0, head_from (x.place + 1) (colls_of x ++ names) q xs up.1 later)
    ]

none_from : (least : ℕ) (names : List (List ℕ)) (q : ℕ) (xs : List Context) → PlacesAscend least xs → q < least → head_behind names q xs ≡ false
none_from least names q xs up lt = false_from_ne_true (head_behind names q xs) (λ h. absurd (omega (arith, lt, head_from least names q xs up h)))

-- ---- what is chosen is the first of them

pub record IsFirstHead (least : ℕ) (names : List (List ℕ)) (xs : List Context) (x : Context) : Type 0 where
  pub at : context_at x.place xs ≡ Some x
  pub head : head_behind names x.place xs ≡ true
  pub first : (q : ℕ) → head_behind names q xs ≡ true → x.place ≤ q
  pub done : is_done x ≡ true
  pub above : least ≤ x.place

first_by : (least : ℕ) (names : List (List ℕ)) (y : Context) (ys : List Context) (x : Context) (b : Bool) → PlacesAscend least (y ∷ ys)
    → (is_done y && not (any_named (colls_of y) names)) ≡ b
    → (chosen_behind (colls_of y ++ names) ys ≡ Some x → IsFirstHead (y.place + 1) (colls_of y ++ names) ys x)
    → cond b (Some y) (chosen_behind (colls_of y ++ names) ys) ≡ Some x → IsFirstHead least names (y ∷ ys) x
first_by least names y ys x true up test later is =
    let own : IsFirstHead least names (y ∷ ys) y = record {
      at = ap (λ (b : Bool). cond b (Some y) (context_at y.place ys)) (eq-eqb y.place y.place refl);
      head = ap (λ (b : Bool). ((y.place == y.place) && b) || head_behind (colls_of y ++ names) y.place ys) test
          ∙ ap (λ (b : Bool). (b && true) || head_behind (colls_of y ++ names) y.place ys) (eq-eqb y.place y.place refl);
      first = λ q h. elim (or_cases ((y.place == q) && (is_done y && not (any_named (colls_of y) names))) (head_behind (colls_of y ++ names) q ys) h) [
        | inl here ↦ omega (arith, eqb-true y.place q (and_parts (y.place == q) (is_done y && not (any_named (colls_of y) names)) here).0)
        | inr later ↦ omega (arith, head_from (y.place + 1) (colls_of y ++ names) q ys up.1 later)
      ];
      done = (and_parts (is_done y) (not (any_named (colls_of y) names)) test).0;
      above = up.0;
    } in
    subst (λ (z : Context). IsFirstHead least names (y ∷ ys) z) (same_Some y x is) own
first_by least names y ys x false up test later is =
    let rest : IsFirstHead (y.place + 1) (colls_of y ++ names) ys x = later is in
    record {
      at = ap (λ (b : Bool). cond b (Some y) (context_at x.place ys)) (ne_eqb y.place x.place (λ e. absurd (omega (arith, e, rest.above)))) ∙ rest.at;
      head = or_right ((y.place == x.place) && (is_done y && not (any_named (colls_of y) names))) (head_behind (colls_of y ++ names) x.place ys) rest.head;
      first = λ q h. elim (or_cases ((y.place == q) && (is_done y && not (any_named (colls_of y) names))) (head_behind (colls_of y ++ names) q ys) h) [
        | inl here ↦ absurd (false≢true (sym test ∙ (and_parts (y.place == q) (is_done y && not (any_named (colls_of y) names)) here).1))
        | inr after ↦ rest.first q after
      ];
      done = rest.done;
      above = omega (arith, up.0, rest.above);
    }

first_head : (least : ℕ) (names : List (List ℕ)) (xs : List Context) (x : Context) → PlacesAscend least xs → chosen_behind names xs ≡ Some x
    → IsFirstHead least names xs x
first_head least names [] x up is = absurd (cc)
first_head least names (y ∷ ys) x up is =
    first_by least names y ys x (is_done y && not (any_named (colls_of y) names)) up refl (λ e. first_head (y.place + 1) (colls_of y ++ names) ys x up.1 e) is

none_by : (b e : Bool) (y : Context) (o : Option Context) (rest : Bool) → (o ≡ None → rest ≡ false) → cond b (Some y) o ≡ None → ((e && b) || rest) ≡ false
none_by true e y o rest later is = absurd (cc)
none_by false true y o rest later is = later is
none_by false false y o rest later is = later is

no_head : (names : List (List ℕ)) (q : ℕ) (xs : List Context) → chosen_behind names xs ≡ None → head_behind names q xs ≡ false
no_head names q [] is = refl
no_head names q (y ∷ ys) is =
    none_by (is_done y && not (any_named (colls_of y) names)) (y.place == q) y (chosen_behind (colls_of y ++ names) ys) (head_behind (colls_of y ++ names) q ys)
    (λ e. no_head (colls_of y ++ names) q ys e) is

-- ---- by the turns of its collection

abbrev head_of : List (List ℕ) → ℕ → List Context → List ℕ → Bool
head_of names q xs c = not (any_named (c ∷ []) names) && is_ready_at q (turns_of c xs)

pub ready_by : (a : Bool) (p q : ℕ) → option_map_or (λ k. k == q) (cond a (Some p) None) false ≡ (a && (p == q))
ready_by true p q = refl
ready_by false p q = refl

here_by : (a n : Bool) → ((true && (a && not n)) || false) ≡ (not n && (a && true))
here_by true true = refl
here_by true false = refl
here_by false true = refl
here_by false false = refl

named_by : (n a r : Bool) → (not (n || true) && r) ≡ (not n && (a && false))
named_by true a r = refl
named_by false true r = refl
named_by false false r = refl

or_none : (n : Bool) → (n || false) ≡ n
or_none true = refl
or_none false = refl

pub same_sym : (c d : List ℕ) → is_same c d ≡ is_same d c
same_sym c d = by_test (is_same c d) (is_same d c) refl refl
  where
    by_test : (a b : Bool) → is_same c d ≡ a → is_same d c ≡ b → a ≡ b
    by_test true b e f = sym (is_same_itself d) ∙ ap (λ (z : List ℕ). is_same d z) (sym (same_name c d e)) ∙ f
    by_test false true e f = sym e ∙ ap (λ (z : List ℕ). is_same z d) (sym (same_name d c f)) ∙ is_same_itself d
    by_test false false e f = refl

head_other : (names : List (List ℕ)) (q : ℕ) (y : Context) (ys : List Context) (c : List ℕ) (b : Bool) → (y.place == q) ≡ false → is_same c y.coll ≡ b
    → head_of (colls_of y ++ names) q ys c ≡ head_of names q (y ∷ ys) c
head_other names q y ys c true other same =
    ap (λ (b : Bool). not (any_named (c ∷ []) names || b) && is_ready_at q (turns_of c ys)) (same_sym y.coll c ∙ same)
    ∙ named_by (any_named (c ∷ []) names) (is_done y) (is_ready_at q (turns_of c ys))
    ∙ ap (λ (b : Bool). not (any_named (c ∷ []) names) && (is_done y && b)) (sym other)
    ∙ ap (λ (b : Bool). not (any_named (c ∷ []) names) && b) (sym (ready_by (is_done y) y.place q))
    ∙ ap (λ (b : Bool). not (any_named (c ∷ []) names) && is_ready_at q (cond b (turn_of y ∷ turns_of c ys) (turns_of c ys))) (sym same)
head_other names q y ys c false other same =
    ap (λ (b : Bool). not (any_named (c ∷ []) names || b) && is_ready_at q (turns_of c ys)) (same_sym y.coll c ∙ same)
    ∙ ap (λ (b : Bool). not b && is_ready_at q (turns_of c ys)) (or_none (any_named (c ∷ []) names))
    ∙ ap (λ (b : Bool). not (any_named (c ∷ []) names) && is_ready_at q (cond b (turn_of y ∷ turns_of c ys) (turns_of c ys))) (sym same)

option_same : (f g : List ℕ → Bool) (o : Option (List ℕ)) → ((c : List ℕ) → f c ≡ g c) → option_map_or f o false ≡ option_map_or g o false
option_same f g None same = refl
option_same f g (Some c) same = same c

head_is : (least : ℕ) (names : List (List ℕ)) (q : ℕ) (xs : List Context) → PlacesAscend least xs
    → head_behind names q xs ≡ option_map_or (head_of names q xs) (coll_at q xs) false
head_is least names q [] up = refl
head_is least names q (y ∷ ys) up = by_place (y.place == q) refl (head_is (y.place + 1) (colls_of y ++ names) q ys up.1)
  where
    at : Bool → Bool
    at b = option_map_or (head_of names q (y ∷ ys)) (option_map (λ (x : Context). x.coll) (cond b (Some y) (context_at q ys))) false

    n : Bool
    n = any_named (colls_of y) names

    by_place : (b : Bool) → (y.place == q) ≡ b → head_behind (colls_of y ++ names) q ys ≡ option_map_or (head_of (colls_of y ++ names) q ys) (coll_at q ys) false
        → head_behind names q (y ∷ ys) ≡ at (y.place == q)
    by_place true here later =
        ap (λ (b : Bool). (b && (is_done y && not n)) || head_behind (colls_of y ++ names) q ys) here
        ∙ ap (λ (r : Bool). (true && (is_done y && not n)) || r) (none_from (y.place + 1) (colls_of y ++ names) q ys up.1 (omega (arith, eqb-true y.place q here)))
        ∙ here_by (is_done y) n
        ∙ ap (λ (b : Bool). not n && (is_done y && b)) (sym here)
        ∙ ap (λ (b : Bool). not n && b) (sym (ready_by (is_done y) y.place q))
        ∙ ap (λ (b : Bool). not n && is_ready_at q (cond b (turn_of y ∷ turns_of y.coll ys) (turns_of y.coll ys))) (sym (is_same_itself y.coll))
        ∙ ap at (sym here)
    by_place false other later =
        ap (λ (b : Bool). (b && (is_done y && not n)) || head_behind (colls_of y ++ names) q ys) other
        ∙ later
        ∙ option_same (head_of (colls_of y ++ names) q ys) (head_of names q (y ∷ ys)) (coll_at q ys) (λ c. head_other names q y ys c (is_same c y.coll) other refl)
        ∙ ap at (sym other)

is_head_of : (q : ℕ) (xs : List Context) → PlacesAscend 0 xs → head_behind [] q xs ≡ is_head q xs
is_head_of q xs up = head_is 0 [] q xs up

-- ---- the one of least place

-- what is chosen is the first of those that a batch may take
pub record IsChosen (xs : List Context) (x : Context) : Type 0 where
  pub at : context_at x.place xs ≡ Some x
  pub head : is_head x.place xs ≡ true
  pub first : (q : ℕ) → is_head q xs ≡ true → x.place ≤ q
  pub done : is_done x ≡ true

pub chosen_is : (xs : List Context) (x : Context) → PlacesAscend 0 xs → chosen xs ≡ Some x → IsChosen xs x
chosen_is xs x up is =
    let f : IsFirstHead 0 [] xs x = first_head 0 [] xs x up is in
    record {
      at = f.at;
      head = sym (is_head_of x.place xs up) ∙ f.head;
      first = λ q h. f.first q (is_head_of q xs up ∙ h);
      done = f.done;
    }

pub none_chosen : (xs : List Context) (q : ℕ) → PlacesAscend 0 xs → chosen xs ≡ None → is_head q xs ≡ false
none_chosen xs q up is = sym (is_head_of q xs up) ∙ no_head [] q xs is
