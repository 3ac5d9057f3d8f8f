-- Lists taken apart: what holds of each or of some member, contexts by their places, and what flies but for one.
use Rattle.std.proofs.Common.{◌≡◌, inl, inr, ℕ, zero, suc, ◌+◌, ◌<◌, Bool, false, cond, not, ◌==◌, List, [], ◌∷◌, ◌++◌, map, take, length, refl, ap, subst, ◌∙◌, length-append, arith}
use Rattle.flight_facts.proofs.Common.{AllByRecursion, eq-eqb, ne_eqb, Ascends, Context}
use Rattle.std.proofs.lemmas.List.{map-append}
use Rattle.store_steps.specs.Prelude.{with_context, without_context}
use Rattle.flight_facts.specs.Prelude.{AnyByRecursion}

-- ---- each member

pub all_left : {A : Type 0} (P : A → Type 0) (xs ys : List A) → AllByRecursion P (xs ++ ys) → AllByRecursion P xs
all_left P [] ys all = tt
all_left P (x ∷ xs) ys all = (all.0, all_left P xs ys all.1)

pub all_right : {A : Type 0} (P : A → Type 0) (xs ys : List A) → AllByRecursion P (xs ++ ys) → AllByRecursion P ys
all_right P [] ys all = all
all_right P (x ∷ xs) ys all = all_right P xs ys all.1

pub all_join : {A : Type 0} (P : A → Type 0) (xs ys : List A) → AllByRecursion P xs → AllByRecursion P ys → AllByRecursion P (xs ++ ys)
all_join P [] ys all more = more
all_join P (x ∷ xs) ys all more = (all.0, all_join P xs ys all.1 more)

pub all_take : {A : Type 0} (P : A → Type 0) (n : ℕ) (xs : List A) → AllByRecursion P xs → AllByRecursion P (take n xs)
all_take P zero xs all = tt
all_take P (suc n) [] all = tt
all_take P (suc n) (x ∷ xs) all = (all.0, all_take P n xs all.1)

-- so it holds of the one in the middle
pub all_at : {A : Type 0} (P : A → Type 0) (front : List A) (x : A) (back xs : List A) → xs ≡ front ++ x ∷ back → AllByRecursion P xs → P x
all_at P front x back xs is all = (all_right P front (x ∷ back) (subst (AllByRecursion P) is all)).0

-- ---- lengths

pub length_push : {A : Type 0} (xs : List A) (y : A) → length (xs ++ y ∷ []) ≡ length xs + 1
length_push xs y = length-append xs (y ∷ [])

pub length_middle : {A : Type 0} (front : List A) (x : A) (back : List A) → length (front ++ x ∷ back) ≡ length (front ++ back) + 1
length_middle [] x back = omega arith
length_middle (y ∷ front) x back = omega (arith, length_middle front x back)

-- ---- some member

pub record StandsIn {A : Type 0} (P : A → Type 0) (xs : List A) : Type 0 where
  pub front : List A
  pub item : A
  pub back : List A
  pub is : xs ≡ front ++ item ∷ back
  pub holds : P item

pub any_stands : {A : Type 0} (P : A → Type 0) (xs : List A) → AnyByRecursion P xs → StandsIn P xs
any_stands P [] any = absurd any
any_stands P (x ∷ xs) (inl here) = record { front = []; item = x; back = xs; is = refl; holds = here }
any_stands {A} P (x ∷ xs) (inr more) =
    let rest : StandsIn P xs = any_stands P xs more in
    record { front = x ∷ rest.front; item = rest.item; back = rest.back; is = ap (λ (ys : List A). x ∷ ys) rest.is; holds = rest.holds }

pub stands_any : {A : Type 0} (P : A → Type 0) (front : List A) (x : A) (back : List A) → P x → AnyByRecursion P (front ++ x ∷ back)
stands_any P [] x back here = inl here
stands_any P (y ∷ front) x back here = inr (stands_any P front x back here)

pub any_front : {A : Type 0} (P : A → Type 0) (xs ys : List A) → AnyByRecursion P xs → AnyByRecursion P (xs ++ ys)
any_front P [] ys any = absurd any
any_front P (x ∷ xs) ys (inl here) = inl here
any_front P (x ∷ xs) ys (inr more) = inr (any_front P xs ys more)

-- ---- contexts by their places

-- none of the others stands at this place
pub record AreElsewhere (place : ℕ) (front back : List Context) : Type 0 where
  pub ahead : AllByRecursion (λ y. y.place == place ≡ false) front
  pub behind : AllByRecursion (λ y. y.place == place ≡ false) back

behind_all : (place : ℕ) (xs : List Context) → AllByRecursion (λ v. place < v) (map (λ x. x.place) xs) → AllByRecursion (λ y. y.place == place ≡ false) xs
behind_all place [] all = tt
behind_all place (x ∷ xs) all = (ne_eqb x.place place (omega (arith, all.0)), behind_all place xs all.1)

below_middle : (place : ℕ) (front : List Context) (x : Context) (back : List Context)
    → AllByRecursion (λ v. place < v) (map (λ y. y.place) (front ++ x ∷ back)) → place < x.place
below_middle place [] x back all = all.0
below_middle place (y ∷ front) x back all = below_middle place front x back all.1

pub elsewhere : (front : List Context) (x : Context) (back : List Context) → Ascends (map (λ x. x.place) (front ++ x ∷ back))
    → AreElsewhere x.place front back
elsewhere [] x back up = record { ahead = tt; behind = behind_all x.place back up.0 }
elsewhere (y ∷ front) x back up =
    let rest : AreElsewhere x.place front back = elsewhere front x back up.1 in
    record { ahead = (ne_eqb y.place x.place (omega (arith, below_middle y.place front x back up.0)), rest.ahead); behind = rest.behind }

all_out : (P : ℕ → Type 0) (front : List Context) (x : Context) (back : List Context)
    → AllByRecursion P (map (λ z. z.place) (front ++ x ∷ back)) → AllByRecursion P (map (λ z. z.place) (front ++ back))
all_out P [] x back all = all.1
all_out P (y ∷ front) x back all = (all.0, all_out P front x back all.1)

-- without one of them they ascend still
pub ascend_less : (front : List Context) (x : Context) (back : List Context) → Ascends (map (λ z. z.place) (front ++ x ∷ back))
    → Ascends (map (λ z. z.place) (front ++ back))
ascend_less [] x back up = up.1
ascend_less (y ∷ front) x back up = (all_out (λ v. y.place < v) front x back up.0, ascend_less front x back up.1)

with_away : (place : ℕ) (change : Context → Context) (xs : List Context) → AllByRecursion (λ y. y.place == place ≡ false) xs → with_context place change xs ≡ xs
with_away place change [] away = refl
with_away place change (x ∷ xs) away =
    ap (λ (b : Bool). cond b (change x) x ∷ with_context place change xs) away.0 ∙ ap (λ (ys : List Context). x ∷ ys) (with_away place change xs away.1)

without_away : (place : ℕ) (xs : List Context) → AllByRecursion (λ y. y.place == place ≡ false) xs → without_context place xs ≡ xs
without_away place [] away = refl
without_away place (x ∷ xs) away =
    ap (λ (b : Bool). cond (not b) (x ∷ without_context place xs) (without_context place xs)) away.0
    ∙ ap (λ (ys : List Context). x ∷ ys) (without_away place xs away.1)

-- the context at its place is changed, and no other
with_at : (change : Context → Context) (front : List Context) (x : Context) (back : List Context) → AreElsewhere x.place front back
    → with_context x.place change (front ++ x ∷ back) ≡ front ++ change x ∷ back
with_at change front x back others =
    map-append (λ (y : Context). cond (y.place == x.place) (change y) y) front (x ∷ back)
    ∙ ap (λ (ys : List Context). ys ++ with_context x.place change (x ∷ back)) (with_away x.place change front others.ahead)
    ∙ ap (λ (b : Bool). front ++ cond b (change x) x ∷ with_context x.place change back) (eq-eqb x.place x.place refl)
    ∙ ap (λ (ys : List Context). front ++ change x ∷ ys) (with_away x.place change back others.behind)

-- so it is in contexts whose places ascend
pub with_in : (change : Context → Context) (front : List Context) (x : Context) (back xs : List Context) → xs ≡ front ++ x ∷ back
    → Ascends (map (λ y. y.place) xs) → with_context x.place change xs ≡ front ++ change x ∷ back
with_in change front x back xs is up = ap (with_context x.place change) is
    ∙ with_at change front x back (elsewhere front x back (subst (λ (ys : List Context). Ascends (map (λ y. y.place) ys)) is up))

-- it is left out, and no other
without_at : (front : List Context) (x : Context) (back : List Context) → AreElsewhere x.place front back
    → without_context x.place (front ++ x ∷ back) ≡ front ++ back
without_at [] x back others =
    ap (λ (b : Bool). cond (not b) (x ∷ without_context x.place back) (without_context x.place back)) (eq-eqb x.place x.place refl)
    ∙ without_away x.place back others.behind
without_at (y ∷ front) x back others =
    ap (λ (b : Bool). cond (not b) (y ∷ without_context x.place (front ++ x ∷ back)) (without_context x.place (front ++ x ∷ back)))
    others.ahead.0 ∙ ap (λ (ys : List Context). y ∷ ys) (without_at front x back (record { ahead = others.ahead.1; behind = others.behind }))

pub without_in : (front : List Context) (x : Context) (back xs : List Context) → xs ≡ front ++ x ∷ back → Ascends (map (λ y. y.place) xs)
    → without_context x.place xs ≡ front ++ back
without_in front x back xs is up = ap (without_context x.place) is
    ∙ without_at front x back (elsewhere front x back (subst (λ (ys : List Context). Ascends (map (λ y. y.place) ys)) is up))
