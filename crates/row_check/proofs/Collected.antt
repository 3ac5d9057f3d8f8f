-- The places of marks, in ascending order.
use Rattle.std.proofs.Common.{◌≡◌, ◌≢◌, inl, inr, ℕ, ◌+◌, ◌<◌, ◌≤◌, Bool, true, false, ◌||◌, List, [], ◌∷◌, ◌++◌, length, get_or, take, refl, sym, ap, subst, ◌∙◌, arith, take_all, length-take}
use Rattle.std.specs.List.{list_any, AllByRecursion}
use Rattle.std.specs.Ordering.{nat_cmp, eq_by_cmp}
use Rattle.std.specs.Cmp.{nat_cmp_total}
use Rattle.std.specs.FinSet as set
use Rattle.std.specs.FinSet.{contains-from_list}
use Rattle.std.proofs.lemmas.Bool.{cases_lt, cases_eq}
use Rattle.std.proofs.lemmas.Bool.Decides.{nat_tests}
use Rattle.std.proofs.lemmas.List.{get_or-take, get_or_past}
use Rattle.std.proofs.lemmas.List.Folds.{list_any-append}
use Rattle.unit_fields.specs.Prelude.{Ascends}

-- the places of the marks before this one
pub record Collected (marks : List Bool) (i : ℕ) (us : List ℕ) : Type 0 where
  pub ascend : Ascends us
  pub below : AllByRecursion (λ u. u < i) us
  pub those : (u : ℕ) → list_any (eq_by_cmp nat_cmp u) us ≡ get_or (take i marks) u false

pub none_collected : (marks : List Bool) → Collected marks 0 []
none_collected marks = record { ascend = tt; below = tt; those = λ u. refl }

-- ---- lists

all_less : (i : ℕ) (us : List ℕ) → AllByRecursion (λ u. u < i) us → AllByRecursion (λ u. u < i + 1) us
all_less i [] all = tt
all_less i (u ∷ us) all = (omega (arith, all.0), all_less i us all.1)

below_pushed : (i : ℕ) (us : List ℕ) → AllByRecursion (λ u. u < i) us → AllByRecursion (λ u. u < i + 1) (us ++ i ∷ [])
below_pushed i [] all = (omega arith, tt)
below_pushed i (u ∷ us) all = (omega (arith, all.0), below_pushed i us all.1)

above_pushed : (v i : ℕ) (us : List ℕ) → v < i → AllByRecursion (λ u. v < u) us → AllByRecursion (λ u. v < u) (us ++ i ∷ [])
above_pushed v i [] lt all = (lt, tt)
above_pushed v i (u ∷ us) lt all = (all.0, above_pushed v i us lt all.1)

ascend_pushed : (i : ℕ) (us : List ℕ) → AllByRecursion (λ u. u < i) us → Ascends us → Ascends (us ++ i ∷ [])
ascend_pushed i [] all up = (tt, tt)
ascend_pushed i (u ∷ us) all up = (above_pushed u i us all.0 up.0, ascend_pushed i us all.1 up.1)

-- ---- one more place

not_yet : (marks : List Bool) (i u : ℕ) → i ≤ u → get_or (take i marks) u false ≡ false
not_yet marks i u le = get_or_past (take i marks) u false (omega (arith, length-take i marks, le))

other_place : (marks : List Bool) (i u : ℕ) → u ≢ i → get_or (take (i + 1) marks) u false ≡ get_or (take i marks) u false
other_place marks i u ne = elim (cases_lt u i) [
  | inl lt ↦ get_or-take (i + 1) marks u false (omega (arith, lt)) ∙ sym (get_or-take i marks u false lt)
  | inr ge ↦ not_yet marks (i + 1) u (omega (arith, ge, ne)) ∙ sym (not_yet marks i u ge)
]

this_place : (marks : List Bool) (i : ℕ) → get_or (take (i + 1) marks) i false ≡ get_or marks i false
this_place marks i = get_or-take (i + 1) marks i false (omega arith)

alike : (u : ℕ) → eq_by_cmp nat_cmp u u ≡ true
alike u = grind (arith, nat_tests)

pub unlike : (u v : ℕ) → u ≢ v → eq_by_cmp nat_cmp u v ≡ false
unlike u v ne = grind (arith, nat_tests)

or_true : (b : Bool) → (b || true) ≡ true
or_true true = refl
or_true false = refl

or_false : (b : Bool) → (b || false) ≡ b
or_false true = refl
or_false false = refl

any_pushed : (p : ℕ → Bool) (us : List ℕ) (i : ℕ) → list_any p (us ++ i ∷ []) ≡ (list_any p us || p i)
any_pushed p us i = list_any-append p us (i ∷ []) ∙ ap (λ b. list_any p us || b) (or_false (p i))

module _ (marks : List Bool) (i : ℕ) (us : List ℕ) (old : Collected marks i us) where
  pub passed_over : get_or marks i false ≡ false → Collected marks (i + 1) us
  passed_over fails = record {
    ascend = old.ascend;
    below = all_less i us old.below;
    those = λ u. elim (cases_eq u i) [
      | inl e ↦ subst (λ n. list_any (eq_by_cmp nat_cmp n) us ≡ get_or (take (i + 1) marks) n false) (sym e)
          (old.those i ∙ not_yet marks i i (omega arith) ∙ sym (this_place marks i ∙ fails))
      | inr ne ↦ old.those u ∙ sym (other_place marks i u ne)
    ];
  }

  pub put_in : get_or marks i false ≡ true → Collected marks (i + 1) (us ++ i ∷ [])
  put_in holds = record {
    ascend = ascend_pushed i us old.below old.ascend;
    below = below_pushed i us old.below;
    those = λ u. any_pushed (eq_by_cmp nat_cmp u) us i ∙ elim (cases_eq u i) [
      | inl e ↦ subst (λ n. (list_any (eq_by_cmp nat_cmp n) us || eq_by_cmp nat_cmp n i) ≡ get_or (take (i + 1) marks) n false) (sym e)
          (ap (λ b. list_any (eq_by_cmp nat_cmp i) us || b) (alike i) ∙ or_true _ ∙ sym (this_place marks i ∙ holds))
      | inr ne ↦ ap (λ b. list_any (eq_by_cmp nat_cmp u) us || b) (unlike u i ne) ∙ or_false _ ∙ old.those u ∙ sym (other_place marks i u ne)
    ];
  }

  pub all_collected : length marks ≤ i → (u : ℕ) → set.contains (set.from_list {R = nat_cmp} us) u ≡ get_or marks u false
  all_collected end u = contains-from_list nat_cmp_total us u ∙ old.those u ∙ ap (λ (l : List Bool). get_or l u false) (take_all i marks end)
