-- Sets of units as ascending lists.
use Rattle.std.proofs.Common.{◌≡◌, ◌⊎◌, ◌↔◌, inl, inr, ℕ, ◌^◌, ◌<◌, Bool, true, false, not, cond, ◌||◌, List, [], ◌∷◌, filter, refl, sym, ap, subst, ◌∙◌, arith}
use Rattle.std.specs.List.{list_any, AllByRecursion}
use Rattle.std.specs.Ordering.{nat_cmp, eq_by_cmp}
use Rattle.std.specs.Cmp.{nat_cmp_total}
use Rattle.std.specs.FinSet as set
use Rattle.std.specs.FinSet.{contains-from_list}
use Rattle.std.proofs.lemmas.Bool.{cases_eq, cases_Bool}
use Rattle.std.proofs.lemmas.Bool.Decides.{nat_tests}
use Rattle.unit_fields.specs.Prelude.{Ascends}
use Rattle.unit_fields.specs.declared.width.Width.{Width}
use Rattle.meta_rows.specs.Prelude.{Rows}
use Rattle.store_image.specs.Prelude.{IsOwned, IsMarked, IsLeaked, HasSoleOwner}
use Rattle.bitmap_freelist.specs.Bitmap as freelist
use Rattle.bitmap_freelist.specs.Bitmap.{Units, Has}
use Rattle.ordered_lists.specs.Lists.{IsIn, Ascend, ListsAll}
use Rattle.ordered_lists.proofs.Joining.{all_as, lists_none, lists_as}
use Rattle.row_check.specs.Owned.{AreOwned, AreShared}
use Rattle.row_check.specs.Least.{IsOnlyIn}
use Rattle.row_check.proofs.Collected.{unlike}

alike : (u : ℕ) → eq_by_cmp nat_cmp u u ≡ true
alike u = grind (arith, nat_tests)

-- a unit is in a list where a test for it passes
in_list : (us : List ℕ) (u : ℕ) → (list_any (eq_by_cmp nat_cmp u) us ≡ true) ↔ IsIn u us
in_list [] u = (λ is. let never : false ≡ true = is in cc, λ is. absurd is)
in_list (x ∷ us) u =
    let rest = in_list us u in
    elim (cases_eq u x) [
      | inl same ↦ (λ is. inl (sym same), λ is. ap (λ b. b || list_any (eq_by_cmp nat_cmp u) us) (ap (eq_by_cmp nat_cmp u) (sym same) ∙ alike u))
      | inr other ↦ (
        λ is. inr (rest.0 (sym (ap (λ b. b || list_any (eq_by_cmp nat_cmp u) us) (unlike u x other)) ∙ is)),
        λ is. ap (λ b. b || list_any (eq_by_cmp nat_cmp u) us) (unlike u x other) ∙ rest.1 (later is other),
      )
    ]
  where
    later : (IsIn u (x ∷ us)) → (u ≡ x → ⊥) → IsIn u us
    later (inl same) other = absurd (other (sym same))
    later (inr is) other = is

in_set : (us : List ℕ) (units : Units) (u : ℕ) → set.from_list us ≡ units → Has units u ↔ IsIn u us
in_set us units u are =
    let test = sym (contains-from_list nat_cmp_total us u) ∙ ap (λ (x : Units). set.contains x u) are in
    let list = in_list us u in
    (λ has. list.0 (test ∙ has), λ is. sym test ∙ list.1 is)

-- those of a list that pass a test
module _ (p : ℕ → Bool) where
  one_kept : (P : ℕ → Type 0) (b : Bool) (x : ℕ) (xs : List ℕ) → P x → AllByRecursion P xs → AllByRecursion P (cond b (x ∷ xs) xs)
  one_kept P true x xs is all = (is, all)
  one_kept P false x xs is all = all

  kept : (P : ℕ → Type 0) (us : List ℕ) → AllByRecursion P us → AllByRecursion P (filter p us)
  kept P [] all = tt
  kept P (x ∷ us) all = one_kept P (p x) x (filter p us) all.0 (kept P us all.1)

  one_ascends : (b : Bool) (x : ℕ) (xs : List ℕ) → AllByRecursion (λ v. x < v) xs → Ascend (λ a b. a < b) xs → Ascend (λ a b. a < b) (cond b (x ∷ xs) xs)
  one_ascends true x xs above up = (above, up)
  one_ascends false x xs above up = up

  kept_ascends : (us : List ℕ) → Ascends us → Ascend (λ a b. a < b) (filter p us)
  kept_ascends [] up = tt
  kept_ascends (x ∷ us) up = one_ascends (p x) x (filter p us) (kept (λ v. x < v) us up.0) (kept_ascends us up.1)

  -- exactly those are kept that are in the list and pass
  one_passes : (b : Bool) (x : ℕ) (xs : List ℕ) → p x ≡ b → AllByRecursion (λ u. p u ≡ true) xs → AllByRecursion (λ u. p u ≡ true) (cond b (x ∷ xs) xs)
  one_passes true x xs is all = (is, all)
  one_passes false x xs is all = all

  kept_pass : (us : List ℕ) → AllByRecursion (λ u. p u ≡ true) (filter p us)
  kept_pass [] = tt
  kept_pass (x ∷ us) = one_passes (p x) x (filter p us) refl (kept_pass us)

  keep_head : (b : Bool) (x : ℕ) (xs : List ℕ) → b ≡ true → IsIn x (cond b (x ∷ xs) xs)
  keep_head true x xs is = inl refl
  keep_head false x xs is = absurd cc

  keep_rest : (b : Bool) (x u : ℕ) (xs : List ℕ) → IsIn u xs → IsIn u (cond b (x ∷ xs) xs)
  keep_rest true x u xs is = inr is
  keep_rest false x u xs is = is

  keeps : (us : List ℕ) (u : ℕ) → IsIn u us → p u ≡ true → IsIn u (filter p us)
  keeps [] u is passes = absurd is
  keeps (x ∷ us) u (inl same) passes =
      subst (λ v. IsIn v (filter p (x ∷ us))) same (keep_head (p x) x (filter p us) (ap p same ∙ passes))
  keeps (x ∷ us) u (inr is) passes = keep_rest (p x) x u (filter p us) (keeps us u is passes)

all_members : (us : List ℕ) → AllByRecursion (λ u. IsIn u us) us
all_members us = widen us us (λ u is. is)
  where
    widen : (us some : List ℕ) → ((u : ℕ) → IsIn u some → IsIn u us) → AllByRecursion (λ u. IsIn u us) some
    widen us [] are = tt
    widen us (x ∷ some) are = (are x (inl refl), widen us some (λ u is. are u (inr is)))

not_true : (b : Bool) → not b ≡ true → b ≡ false
not_true true is = absurd cc
not_true false is = refl

-- the units of a set that are in none of the others
pub outside_lists : (us : List ℕ) (units others : Units) → set.from_list us ≡ units → Ascends us
    → ListsAll (λ a b. a < b) (IsOnlyIn units others) (filter (λ u. not (set.contains others u)) us)
outside_lists us units others are up =
    let p : ℕ → Bool = λ u. not (set.contains others u) in
    record {
      ascend = kept_ascends p us up;
      each = two_all (filter p us)
          (all_as (λ u. IsIn u us) (Has units) (λ u is. (in_set us units u are).1 is) (filter p us) (kept p (λ u. IsIn u us) us (all_members us)))
          (kept_pass p us);
      all = λ u is. keeps p us u ((in_set us units u are).0 is.0) (outside_test u is.1);
    }
  where
    two_all : (xs : List ℕ) → AllByRecursion (Has units) xs → AllByRecursion (λ u. not (set.contains others u) ≡ true) xs → AllByRecursion (IsOnlyIn units others) xs
    two_all [] a b = tt
    two_all (x ∷ xs) a b = ((a.0, λ has. let out = not_true (set.contains others x) b.0 in absurd cc), two_all xs a.1 b.1)

    outside_test : (u : ℕ) → ¬ Has others u → not (set.contains others u) ≡ true
    outside_test u out = elim (cases_Bool (set.contains others u)) [ inl is ↦ absurd (out is) | inr other ↦ ap not other ]

pub same_lists_none : (units others : Units) → units ≡ others → ListsAll (λ a b. a < b) (IsOnlyIn units others) []
same_lists_none units others same = lists_none (λ (a : ℕ) (b : ℕ). a < b) (IsOnlyIn units others) (λ u is. is.1 (subst (λ (x : Units). Has x u) same is.0))

-- all units of a set
pub set_lists : (us : List ℕ) (units : Units) → set.from_list us ≡ units → Ascends us → ListsAll (λ a b. a < b) (Has units) us
set_lists us units are up = record {
  ascend = up;
  each = all_as (λ u. IsIn u us) (Has units) (λ u is. (in_set us units u are).1 is) us (all_members us);
  all = λ u is. (in_set us units u are).0 is;
}

-- ---- wrong units

module _ (w : Width) (rows : Rows) (owned shared marked : Units) (are_owned : AreOwned w rows owned) (are_shared : AreShared w rows shared)
    (are_marked : freelist.AreMarked rows marked) (below : (unit : ℕ) → IsOwned w rows unit → unit < 2 ^ 32) where
  pub leaked_lists : (us : List ℕ) → ListsAll (λ a b. a < b) (IsOnlyIn marked owned) us → ListsAll (λ a b. a < b) (IsLeaked w rows) us
  leaked_lists us lists = lists_as (λ (a : ℕ) (b : ℕ). a < b) (IsOnlyIn marked owned) (IsLeaked w rows) us (λ unit. (
    λ out. let is = (are_marked unit).0 out.0 in record { is_unit = is.0; marked = is.1; unowned = λ own. out.1 ((are_owned unit).1 own) },
    λ leak. ((are_marked unit).1 (leak.is_unit, leak.marked), λ has. leak.unowned ((are_owned unit).0 has)),
  )) lists

  pub unmarked_lists : (us : List ℕ) → ListsAll (λ a b. a < b) (IsOnlyIn owned marked) us
      → ListsAll (λ a b. a < b) (λ unit. IsOwned w rows unit × ¬ IsMarked rows unit) us
  unmarked_lists us lists = lists_as (λ (a : ℕ) (b : ℕ). a < b) (IsOnlyIn owned marked) (λ unit. IsOwned w rows unit × ¬ IsMarked rows unit) us (λ unit. (
    λ out. let own = (are_owned unit).0 out.0 in (own, λ mark. out.1 ((are_marked unit).1 (below unit own, mark))),
    λ un. ((are_owned unit).1 un.0, λ has. un.1 ((are_marked unit).0 has).1),
  )) lists

  pub doubled_lists : (us : List ℕ) → ListsAll (λ a b. a < b) (Has shared) us → ListsAll (λ a b. a < b) (λ unit. ¬ HasSoleOwner w rows unit) us
  doubled_lists us lists = lists_as (λ (a : ℕ) (b : ℕ). a < b) (Has shared) (λ unit. ¬ HasSoleOwner w rows unit) us (λ unit. are_shared unit) lists

  pub others_owned : (us : List ℕ) → ListsAll (λ a b. a < b) (IsOnlyIn marked owned) us → (unit : ℕ) → unit < 2 ^ 32 → IsMarked rows unit → IsIn unit us ⊎ IsOwned w rows unit
  others_owned us lists unit small mark = elim (cases_Bool (set.contains owned unit)) [
    | inl has ↦ inr ((are_owned unit).0 has)
    | inr out ↦ inl (lists.all unit ((are_marked unit).1 (small, mark), λ has. absurd cc))
  ]
