-- Units whose bytes come into memory one after the other, and go again.
use Rattle.std.proofs.Common.{◌≡◌, ◌⊎◌, inl, inr, ℕ, ◌+◌, ◌<◌, ◌==◌, Bool, true, false, cond, List, [], ◌∷◌, ◌++◌, length, map, take, drop, get_or, Option, Some, None, is_some, refl, sym, ap, subst, ◌∙◌, arith}
use Rattle.std.specs.List.{AllByRecursion}
use Rattle.std.specs.Option.{option_or}
use Rattle.std.proofs.lemmas.List.{take_more, drop_more, take-append-drop}
use Rattle.std.proofs.lemmas.Bool.{eq-eqb, ne_eqb, eqb-true, cases_Bool}
use Rattle.unit_fields.specs.Prelude.{Ascends}
use Rattle.plan_rows.specs.declared.plan.FreshUnit.{FreshUnit}
use Rattle.store_steps.specs.declared.context.Context.{Context}
use Rattle.store_steps.specs.Prelude.{bytes_in, all_fresh}
use Rattle.run_facts.proofs.Prelude.{bytes_both, all_take}

abbrev Memory : Type 0
Memory = ℕ → Option (List ℕ)

none_or : {A : Type 0} (o : Option A) → option_or o None ≡ o
none_or None = refl
none_or (Some x) = refl

none_if : {A : Type 0} (b : Bool) → cond b None None ≡ (let none : Option A = None in none)
none_if true = refl
none_if false = refl

-- equality of numbers, the other way round
turned : (a b : ℕ) → (a == b) ≡ (b == a)
turned a b = elim (cases_Bool (b == a)) [
  | inl same ↦ eq-eqb a b (sym (eqb-true b a same)) ∙ sym same
  | inr other ↦ elim (cases_Bool (a == b)) [
    | inl same ↦ absurd (let both : true ≡ false = sym (eq-eqb b a (sym (eqb-true a b same))) ∙ other in cc)
    | inr apart ↦ apart ∙ sym other
  ]
]

-- ---- units that go

-- what is gone once this unit and those behind it are
pub gone_ahead : (before after : Memory) (f : FreshUnit) (rest : List FreshUnit) → ((u : ℕ) → after u ≡ cond (u == f.unit) None (before u))
    → (u : ℕ) → cond (is_some (bytes_in rest u)) None (after u) ≡ cond (is_some (bytes_in (f ∷ rest) u)) None (before u)
gone_ahead before after f rest goes u =
    ap (λ (o : Option (List ℕ)). cond (is_some (bytes_in rest u)) None o) (goes u ∙ ap (λ (b : Bool). cond b None (before u)) (turned u f.unit))
    ∙ by_test (f.unit == u)
  where
    by_test : (b : Bool) → cond (is_some (bytes_in rest u)) None (cond b None (before u))
        ≡ cond (is_some (cond b (Some f.bytes) (bytes_in rest u))) None (before u)
    by_test true = none_if (is_some (bytes_in rest u))
    by_test false = refl

-- the loop that lets them go
abbrev pub GoesOn : List FreshUnit → Memory → Memory → ℕ → Type 0
GoesOn fresh start now i = (u : ℕ) → cond (is_some (bytes_in (drop i fresh) u)) None (now u) ≡ cond (is_some (bytes_in fresh u)) None (start u)

pub goes_on : (fresh : List FreshUnit) (start now after : Memory) (i : ℕ) (f : FreshUnit) → i < length fresh → f ≡ get_or fresh i f
    → ((u : ℕ) → after u ≡ cond (u == f.unit) None (now u)) → GoesOn fresh start now i → GoesOn fresh start after (i + 1)
goes_on fresh start now after i f below is goes so_far u =
    gone_ahead now after f (drop (i + 1) fresh) goes u
    ∙ sym (ap (λ (fs : List FreshUnit). cond (is_some (bytes_in fs u)) None (now u)) (drop_more fresh i f below ∙ ap (λ (y : FreshUnit). y ∷ drop (i + 1) fresh) (sym is)))
    ∙ so_far u

-- the loop that lets those of contexts go
abbrev pub LetsGo : List Context → Memory → Memory → ℕ → Type 0
LetsGo xs start now i = (u : ℕ) → cond (is_some (bytes_in (all_fresh (drop i xs)) u)) None (now u) ≡ cond (is_some (bytes_in (all_fresh xs) u)) None (start u)

pub lets_go : (xs : List Context) (start now after : Memory) (i : ℕ) (x : Context) → i < length xs → x ≡ get_or xs i x
    → ((u : ℕ) → after u ≡ cond (is_some (bytes_in x.fresh u)) None (now u)) → LetsGo xs start now i → LetsGo xs start after (i + 1)
lets_go xs start now after i x below is goes so_far u =
    ap (cond (is_some (bytes_in (all_fresh rest) u)) None) (goes u)
    ∙ of_both (bytes_in x.fresh u) (bytes_in (all_fresh rest) u)
    ∙ sym (ap (λ (o : Option (List ℕ)). cond (is_some o) None (now u)) (bytes_both x.fresh (all_fresh rest) u))
    ∙ sym (ap (λ (ys : List Context). cond (is_some (bytes_in (all_fresh ys) u)) None (now u))
    (drop_more xs i x below ∙ ap (λ (y : Context). y ∷ rest) (sym is)))
    ∙ so_far u
  where
    rest : List Context
    rest = drop (i + 1) xs

    of_both : (o p : Option (List ℕ)) → cond (is_some p) None (cond (is_some o) None (now u)) ≡ cond (is_some (option_or o p)) None (now u)
    of_both None p = refl
    of_both (Some bytes) p = none_if (is_some p)

-- ---- units that come

-- of none of these bytes were in memory, so they weren't of a unit that is one of them
absent_at : (memory : Memory) (fs : List FreshUnit) (u : ℕ) → AllByRecursion (λ f. memory f.unit ≡ None) fs → is_some (bytes_in fs u) ≡ true → memory u ≡ None
absent_at memory [] u all some = cc
absent_at memory (f ∷ fs) u all some = elim (cases_Bool (f.unit == u)) [
  | inl here ↦ subst (λ (n : ℕ). memory n ≡ None) (eqb-true f.unit u here) all.0
  | inr other ↦ absent_at memory fs u all.1 (sym (ap (λ (b : Bool). is_some (cond b (Some f.bytes) (bytes_in fs u))) other) ∙ some)
]

-- a unit above all of these is none of them
below_all : (fs : List FreshUnit) (u : ℕ) → AllByRecursion (λ f. f.unit < u) fs → bytes_in fs u ≡ None
below_all [] u all = refl
below_all (f ∷ fs) u all =
    ap (λ (b : Bool). cond b (Some f.bytes) (bytes_in fs u)) (ne_eqb f.unit u (λ e. absurd (omega (arith, e, all.0)))) ∙ below_all fs u all.1

-- of units that ascend those in front of one are below it, and it is among them
at_turn : (front : List FreshUnit) (f : FreshUnit) (back : List FreshUnit) → Ascends (map (λ (g : FreshUnit). g.unit) (front ++ f ∷ back))
    → AllByRecursion (λ g. g.unit < f.unit) front
at_turn [] f back ascend = tt
at_turn (g ∷ front) f back ascend = (lower front ascend.0, at_turn front f back ascend.1)
  where
    lower : (hs : List FreshUnit) → AllByRecursion (λ v. g.unit < v) (map (λ (h : FreshUnit). h.unit) (hs ++ f ∷ back)) → g.unit < f.unit
    lower [] all = all.0
    lower (h ∷ hs) all = lower hs all.1

found_at : (P : FreshUnit → Type 0) (front : List FreshUnit) (f : FreshUnit) (back : List FreshUnit) → AllByRecursion P (front ++ f ∷ back) → P f
found_at P [] f back all = all.0
found_at P (g ∷ front) f back all = found_at P front f back all.1

-- what is in memory once some units have come
abbrev pub HoldsSo : List FreshUnit → Memory → Memory → Type 0
HoldsSo fresh start now = (u : ℕ) → now u ≡ option_or (start u) (bytes_in fresh u)

-- one more has
held_more : (start now after : Memory) (front : List FreshUnit) (f : FreshUnit) → start f.unit ≡ None → bytes_in front f.unit ≡ None
    → ((u : ℕ) → after u ≡ cond (u == f.unit) (Some f.bytes) (now u)) → HoldsSo front start now → HoldsSo (front ++ f ∷ []) start after
held_more start now after front f absent fresh comes so_far u =
    comes u
    ∙ ap (λ (b : Bool). cond b (Some f.bytes) (now u)) (turned u f.unit)
    ∙ ap (cond (f.unit == u) (Some f.bytes)) (so_far u)
    ∙ by_test (cases_Bool (f.unit == u))
    ∙ sym (ap (option_or (start u)) (bytes_both front (f ∷ []) u))
  where
    -- nothing was there for its unit
    at : (f.unit == u) ≡ true → (start u ≡ None) × (bytes_in front u ≡ None)
    at here = (subst (λ (n : ℕ). start n ≡ None) (eqb-true f.unit u here) absent, subst (λ (n : ℕ). bytes_in front n ≡ None) (eqb-true f.unit u here) fresh)

    here_is : (o p : Option (List ℕ)) → o ≡ None → p ≡ None → Some f.bytes ≡ option_or o (option_or p (Some f.bytes))
    here_is o p none none_too =
        sym (ap (λ (x : Option (List ℕ)). option_or x (option_or p (Some f.bytes))) none
        ∙ ap (λ (x : Option (List ℕ)). option_or x (Some f.bytes)) none_too)

    by_test : ((f.unit == u) ≡ true) ⊎ ((f.unit == u) ≡ false)
        → cond (f.unit == u) (Some f.bytes) (option_or (start u) (bytes_in front u))
        ≡ option_or (start u) (option_or (bytes_in front u) (cond (f.unit == u) (Some f.bytes) None))
    by_test (inl here) =
        ap (λ (b : Bool). cond b (Some f.bytes) (option_or (start u) (bytes_in front u))) here
        ∙ here_is (start u) (bytes_in front u) (at here).0 (at here).1
        ∙ sym (ap (λ (b : Bool). option_or (start u) (option_or (bytes_in front u) (cond b (Some f.bytes) None))) here)
    by_test (inr other) =
        ap (λ (b : Bool). cond b (Some f.bytes) (option_or (start u) (bytes_in front u))) other
        ∙ sym (ap (λ (b : Bool). option_or (start u) (option_or (bytes_in front u) (cond b (Some f.bytes) None))) other
        ∙ ap (option_or (start u)) (none_or (bytes_in front u)))

-- the loop that holds them
pub holds_on : (fresh : List FreshUnit) (start now after : Memory) (i : ℕ) (f : FreshUnit) → i < length fresh → f ≡ get_or fresh i f
    → AllByRecursion (λ g. start g.unit ≡ None) fresh → Ascends (map (λ (g : FreshUnit). g.unit) fresh)
    → ((u : ℕ) → after u ≡ cond (u == f.unit) (Some f.bytes) (now u)) → HoldsSo (take i fresh) start now → HoldsSo (take (i + 1) fresh) start after
holds_on fresh start now after i f below is absent ascend comes so_far =
    subst (λ (fs : List FreshUnit). HoldsSo fs start after) (sym taken_on)
    (held_more start now after (take i fresh) f (found_at (λ g. start g.unit ≡ None) (take i fresh) f (drop (i + 1) fresh)
    (subst (AllByRecursion (λ g. start g.unit ≡ None)) whole absent))
    (below_all (take i fresh) f.unit
    (at_turn (take i fresh) f (drop (i + 1) fresh) (subst (λ (fs : List FreshUnit). Ascends (map (λ (g : FreshUnit). g.unit) fs)) whole ascend))) comes so_far)
  where
    taken_on : take (i + 1) fresh ≡ take i fresh ++ f ∷ []
    taken_on = take_more fresh i f below ∙ ap (λ (y : FreshUnit). take i fresh ++ y ∷ []) (sym is)

    whole : fresh ≡ take i fresh ++ f ∷ drop (i + 1) fresh
    whole = sym (take-append-drop i fresh) ∙ ap (λ (fs : List FreshUnit). take i fresh ++ fs) (drop_more fresh i f below ∙ ap (λ (y : FreshUnit). y ∷ drop (i + 1) fresh) (sym is))

-- and they go again, as if none had come
pub gone_again : (some : List FreshUnit) (start now after : Memory) → ((u : ℕ) → is_some (bytes_in some u) ≡ true → start u ≡ None)
    → HoldsSo some start now → ((u : ℕ) → after u ≡ cond (is_some (bytes_in some u)) None (now u)) → (u : ℕ) → after u ≡ start u
gone_again some start now after absent held goes u =
    goes u ∙ ap (cond (is_some (bytes_in some u)) None) (held u) ∙ of_found (bytes_in some u) (absent u)
  where
    of_found : (o : Option (List ℕ)) → (is_some o ≡ true → start u ≡ None) → cond (is_some o) None (option_or (start u) o) ≡ start u
    of_found None none = none_or (start u)
    of_found (Some bytes) none = sym (none refl)

pub front_absent : (fresh : List FreshUnit) (start : Memory) (i : ℕ) → AllByRecursion (λ g. start g.unit ≡ None) fresh
    → (u : ℕ) → is_some (bytes_in (take i fresh) u) ≡ true → start u ≡ None
front_absent fresh start i absent u some = absent_at start (take i fresh) u (all_take (λ g. start g.unit ≡ None) i fresh absent) some

pub all_absent : (fresh : List FreshUnit) (start : Memory) → AllByRecursion (λ g. start g.unit ≡ None) fresh
    → (u : ℕ) → is_some (bytes_in fresh u) ≡ true → start u ≡ None
all_absent fresh start absent u some = absent_at start fresh u absent some
