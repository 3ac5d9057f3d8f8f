-- Entries by place: what an entry behind all, one that changes and one that goes make of the contexts.
use Rattle.std.proofs.Common.{◌≡◌, inl, inr, ℕ, ◌+◌, ◌<◌, ◌≤◌, ◌==◌, not, Bool, true, false, cond, List, [], ◌∷◌, ◌++◌, Option, Some, None, refl, sym, ap, subst, ◌∙◌, arith}
use Rattle.std.specs.Map.{lookup, set_value, remove_entry, values_of}
use Rattle.std.specs.BTreeMap.{is_at, insert_entry}
use Rattle.std.specs.Ordering.{nat_cmp, is_eq, match_ordering}
use Rattle.std.specs.declared.cmp.Ordering.{Ordering}
use Rattle.std.specs.declared.cmp.Ordering.TheVariants.{Greater}
use Rattle.std.proofs.lemmas.Bool.Decides.{nat_tests}
use Rattle.std.proofs.lemmas.Bool.{eqb-true, cases_Bool}
use Rattle.store_steps.specs.declared.context.Context.{Context}
use Rattle.store_steps.specs.Prelude.{with_context, without_context}
use Rattle.waiting_contexts.proofs.Ascending.{places_ascend, none_below, none_goes}
use Rattle.waiting_contexts.specs.Places.{AreByPlace, IsAboveAll, context_at}

-- a key is found where it is the place
is_place : (place key : ℕ) → is_eq (nat_cmp place key) ≡ (key == place)
is_place place key = grind (arith, nat_tests)

at_place : (place : ℕ) (e : ℕ × Context) → e.1.place ≡ e.0 → is_at (nat_cmp place) e.0 ≡ (e.1.place == place)
at_place place e same = is_place place e.0 ∙ ap (λ (n : ℕ). n == place) (sym same)

above : (place key : ℕ) → key < place → nat_cmp place key ≡ Greater
above place key lt = grind (arith, nat_tests)

-- ---- behind all

pub insert_is_push : (least place : ℕ) (es : List (ℕ × Context)) (x : Context) → AreByPlace least es → IsAboveAll place (values_of es)
    → insert_entry nat_cmp es place x ≡ es ++ (place, x) ∷ []
insert_is_push least place [] x by_place high = refl
insert_is_push least place (e ∷ es) x by_place high =
    let lt : e.0 < place = omega (arith, by_place.0, high.0) in
    ap (λ (o : Ordering). match_ordering o ((place, x) ∷ e ∷ es) ((e.0, x) ∷ es) (e ∷ insert_entry nat_cmp es place x)) (above place e.0 lt)
    ∙ ap (λ (l : List (ℕ × Context)). e ∷ l) (insert_is_push (e.0 + 1) place es x by_place.2 high.1)

pub by_place_push : (least place : ℕ) (es : List (ℕ × Context)) (x : Context) → AreByPlace least es → least ≤ place → IsAboveAll place (values_of es)
    → x.place ≡ place → AreByPlace least (es ++ (place, x) ∷ [])
by_place_push least place [] x by_place le high is = (is, le, tt)
by_place_push least place (e ∷ es) x by_place le high is =
    (by_place.0, by_place.1, by_place_push (e.0 + 1) place es x by_place.2 (omega (arith, by_place.0, high.0)) high.1 is)

pub values_push : (es : List (ℕ × Context)) (place : ℕ) (x : Context) → values_of (es ++ (place, x) ∷ []) ≡ values_of es ++ x ∷ []
values_push [] place x = refl
values_push (e ∷ es) place x = ap (λ (l : List Context). e.1 ∷ l) (values_push es place x)

-- ---- found

pub lookup_is_context : (least place : ℕ) (es : List (ℕ × Context)) → AreByPlace least es → lookup (is_at (nat_cmp place)) es ≡ context_at place (values_of es)
lookup_is_context least place [] by_place = refl
lookup_is_context least place (e ∷ es) by_place =
    ap (λ (b : Bool). cond b (Some e.1) (lookup (is_at (nat_cmp place)) es)) (at_place place e by_place.0)
    ∙ ap (λ (o : Option Context). cond (e.1.place == place) (Some e.1) o) (lookup_is_context (e.0 + 1) place es by_place.2)

-- ---- a context that changes

pub set_is_change : (least place : ℕ) (f : Context → Context) (es : List (ℕ × Context)) (x : Context) → AreByPlace least es
    → lookup (is_at (nat_cmp place)) es ≡ Some x → values_of (set_value (is_at (nat_cmp place)) es (f x)) ≡ with_context place f (values_of es)
set_is_change least place f [] x by_place found = refl
set_is_change least place f (e ∷ es) x by_place found = elim (cases_Bool (e.1.place == place)) [
  | inl here ↦
      let at : is_at (nat_cmp place) e.0 ≡ true = at_place place e by_place.0 ∙ here in
      let is_first : Some e.1 ≡ Some x = sym (ap (λ (b : Bool). cond b (Some e.1) (lookup (is_at (nat_cmp place)) es)) at) ∙ found in
      let same : e.1 ≡ x = cc in
      ap (λ (b : Bool). values_of (cond b ((e.0, f x) ∷ es) (e ∷ set_value (is_at (nat_cmp place)) es (f x)))) at
      ∙ ap (λ (y : Context). f y ∷ values_of es) (sym same)
      ∙ ap (λ (l : List Context). f e.1 ∷ l) (sym (none_below (e.0 + 1) place f (values_of es) (places_ascend (e.0 + 1) es by_place.2) (omega (arith, eqb-true e.1.place place here, by_place.0))))
      ∙ ap (λ (b : Bool). cond b (f e.1) e.1 ∷ with_context place f (values_of es)) (sym here)
  | inr other ↦
      let apart : is_at (nat_cmp place) e.0 ≡ false = at_place place e by_place.0 ∙ other in
      let later : lookup (is_at (nat_cmp place)) es ≡ Some x = sym (ap (λ (b : Bool). cond b (Some e.1) (lookup (is_at (nat_cmp place)) es)) apart) ∙ found in
      ap (λ (b : Bool). values_of (cond b ((e.0, f x) ∷ es) (e ∷ set_value (is_at (nat_cmp place)) es (f x)))) apart
      ∙ ap (λ (l : List Context). e.1 ∷ l) (set_is_change (e.0 + 1) place f es x by_place.2 later)
      ∙ ap (λ (b : Bool). cond b (f e.1) e.1 ∷ with_context place f (values_of es)) (sym other)
]

pub by_place_set : (least place : ℕ) (es : List (ℕ × Context)) (x y : Context) → AreByPlace least es → lookup (is_at (nat_cmp place)) es ≡ Some x
    → y.place ≡ x.place → AreByPlace least (set_value (is_at (nat_cmp place)) es y)
by_place_set least place [] x y by_place found same = tt
by_place_set least place (e ∷ es) x y by_place found same = elim (cases_Bool (is_at (nat_cmp place) e.0)) [
  | inl at ↦
      let is_first : Some e.1 ≡ Some x = sym (ap (λ (b : Bool). cond b (Some e.1) (lookup (is_at (nat_cmp place)) es)) at) ∙ found in
      let is : e.1 ≡ x = cc in
      let P : Bool → Type 0 = λ b. AreByPlace least (cond b ((e.0, y) ∷ es) (e ∷ set_value (is_at (nat_cmp place)) es y)) in
      subst P (sym at) (same ∙ ap (λ (z : Context). z.place) (sym is) ∙ by_place.0, by_place.1, by_place.2)
  | inr apart ↦
      let later : lookup (is_at (nat_cmp place)) es ≡ Some x = sym (ap (λ (b : Bool). cond b (Some e.1) (lookup (is_at (nat_cmp place)) es)) apart) ∙ found in
      let P : Bool → Type 0 = λ b. AreByPlace least (cond b ((e.0, y) ∷ es) (e ∷ set_value (is_at (nat_cmp place)) es y)) in
      subst P (sym apart) (by_place.0, by_place.1, by_place_set (e.0 + 1) place es x y by_place.2 later same)
]

-- where no context has the place nothing changes
pub none_there : (least place : ℕ) (f : Context → Context) (es : List (ℕ × Context)) → AreByPlace least es → lookup (is_at (nat_cmp place)) es ≡ None
    → values_of es ≡ with_context place f (values_of es)
none_there least place f [] by_place found = refl
none_there least place f (e ∷ es) by_place found = elim (cases_Bool (e.1.place == place)) [
  | inl here ↦
      let at : is_at (nat_cmp place) e.0 ≡ true = at_place place e by_place.0 ∙ here in
      let none : Some e.1 ≡ None = sym (ap (λ (b : Bool). cond b (Some e.1) (lookup (is_at (nat_cmp place)) es)) at) ∙ found in
      absurd (cc)
  | inr other ↦
      let apart : is_at (nat_cmp place) e.0 ≡ false = at_place place e by_place.0 ∙ other in
      let later : lookup (is_at (nat_cmp place)) es ≡ None = sym (ap (λ (b : Bool). cond b (Some e.1) (lookup (is_at (nat_cmp place)) es)) apart) ∙ found in
      ap (λ (l : List Context). e.1 ∷ l) (none_there (e.0 + 1) place f es by_place.2 later)
      ∙ ap (λ (b : Bool). cond b (f e.1) e.1 ∷ with_context place f (values_of es)) (sym other)
]

-- ---- a context that goes

pub remove_is_without : (least place : ℕ) (es : List (ℕ × Context)) → AreByPlace least es
    → values_of (remove_entry (is_at (nat_cmp place)) es) ≡ without_context place (values_of es)
remove_is_without least place [] by_place = refl
remove_is_without least place (e ∷ es) by_place = elim (cases_Bool (e.1.place == place)) [
  | inl here ↦
      ap (λ (b : Bool). values_of (cond b es (e ∷ remove_entry (is_at (nat_cmp place)) es))) (at_place place e by_place.0 ∙ here)
      ∙ sym (none_goes (e.0 + 1) place (values_of es) (places_ascend (e.0 + 1) es by_place.2) (omega (arith, eqb-true e.1.place place here, by_place.0)))
      ∙ ap (λ (b : Bool). cond (not b) (e.1 ∷ without_context place (values_of es)) (without_context place (values_of es))) (sym here)
  | inr other ↦
      ap (λ (b : Bool). values_of (cond b es (e ∷ remove_entry (is_at (nat_cmp place)) es))) (at_place place e by_place.0 ∙ other)
      ∙ ap (λ (l : List Context). e.1 ∷ l) (remove_is_without (e.0 + 1) place es by_place.2)
      ∙ ap (λ (b : Bool). cond (not b) (e.1 ∷ without_context place (values_of es)) (without_context place (values_of es))) (sym other)
]

lower_least : (least lower : ℕ) (es : List (ℕ × Context)) → AreByPlace least es → lower ≤ least → AreByPlace lower es
lower_least least lower [] by_place le = tt
lower_least least lower (e ∷ es) by_place le = (by_place.0, omega (arith, le, by_place.1), by_place.2)

by_place_tail : (least : ℕ) (e : ℕ × Context) (es rest : List (ℕ × Context)) (b : Bool) → AreByPlace least (e ∷ es) → AreByPlace (e.0 + 1) rest
    → AreByPlace least (cond b es (e ∷ rest))
by_place_tail least e es rest true by_place later = lower_least (e.0 + 1) least es by_place.2 (omega (arith, by_place.1))
by_place_tail least e es rest false by_place later = (by_place.0, by_place.1, later)

pub by_place_remove : (least place : ℕ) (es : List (ℕ × Context)) → AreByPlace least es → AreByPlace least (remove_entry (is_at (nat_cmp place)) es)
by_place_remove least place [] by_place = tt
by_place_remove least place (e ∷ es) by_place =
    by_place_tail least e es (remove_entry (is_at (nat_cmp place)) es) (is_at (nat_cmp place) e.0) by_place (by_place_remove (e.0 + 1) place es by_place.2)
