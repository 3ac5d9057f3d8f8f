-- Whether the bitmap is exact, by the sets of owned, shared and marked units.
use Rattle.std.proofs.Common.{◌≡◌, inl, inr, ℕ, ◌^◌, ◌<◌, ◌≤◌, false, List, length, get_or, Option, Some, None, subst, arith}
use Rattle.std.specs.FinSet as set
use Rattle.std.proofs.lemmas.Bool.{cases_lt, cases_Bool}
use Rattle.std.proofs.lemmas.List.{get_or_past}
use Rattle.unit_fields.specs.declared.width.Width.{Width}
use Rattle.meta_rows.specs.Prelude.{Rows}
use Rattle.store_image.specs.Prelude.{HasSoleOwner, IsOwned, IsExactAs, IsInexact, IsLeastInexact}
use Rattle.bitmap_freelist.specs.Bitmap as freelist
use Rattle.bitmap_freelist.specs.Bitmap.{Units}
use Rattle.row_check.specs.Marks.{Marks}
use Rattle.row_check.specs.Owned.{AreOwned, AreShared, MarksOwners}
use Rattle.row_check.specs.Least.{IsLeastUnit, IsLeastOf, IsWrong}
use Rattle.findings.specs.Findings.{SlotCount}
use Rattle.row_check.specs.Tallies.{AreWrongCounts}
use Rattle.row_check.proofs.SlotUnits.{is_unit, unit_wrong, wrong_unit}
use Rattle.row_check.proofs.MarkedRows.{same_or_not}

-- an owned unit is one of those that have marks
pub owned_below : (w : Width) (rows : Rows) (m : Marks) (units : ℕ) → MarksOwners w rows m → length m.owned ≡ units → (unit : ℕ)
    → IsOwned w rows unit → unit < units
owned_below w rows m units are many unit owned = elim (cases_lt unit units) [
  | inl lt ↦ lt
  | inr ge ↦ absurd (
      let is = (are.owned unit).1 owned in
      let no : get_or m.owned unit false ≡ false = get_or_past m.owned unit false (omega (arith, ge, many)) in
      cc)
]

-- a unit that can't have two owners has one at most
sole : (w : Width) (rows : Rows) (unit : ℕ) → (((HasSoleOwner w rows unit) → ⊥) → ⊥) → HasSoleOwner w rows unit
sole w rows unit never a b p q = elim (same_or_not a b) [
  | inl e ↦ e
  | inr apart ↦ absurd (never (λ is. apart (is a b p q)))
]

-- what is known of the three sets
pub record AreUnitsOf (w : Width) (rows : Rows) (owned shared marked : Units) (counts : List SlotCount) (units : ℕ) : Type 0 where
  pub owned_are : AreOwned w rows owned
  pub shared_are : AreShared w rows shared
  pub marked_are : freelist.AreMarked rows marked
  pub below : (unit : ℕ) → IsOwned w rows unit → unit < units
  pub counts_are : AreWrongCounts w rows counts
  pub most : units ≤ 1048576

module _ (w : Width) (rows : Rows) (owned shared marked : Units) (counts : List SlotCount) (units : ℕ)
    (are : AreUnitsOf w rows owned shared marked counts units) where
  small : (unit : ℕ) → IsOwned w rows unit → unit < 2 ^ 32
  small unit is = omega (arith, are.below unit is, are.most)

  wrong_inexact : (unit : ℕ) → IsWrong owned shared marked counts unit → IsInexact w rows unit
  wrong_inexact unit is = elim is [
    | inl outside ↦
        let own = (are.owned_are unit).0 outside.0 in
        inl (own, λ marked. outside.1 ((are.marked_are unit).1 (small unit own, marked)))
    | inr (inl has) ↦ inr (inl ((are.shared_are unit).0 has))
    | inr (inr slot) ↦ inr (inr (unit_wrong w rows counts are.counts_are unit slot))
  ]

  inexact_wrong : (unit : ℕ) → IsInexact w rows unit → IsWrong owned shared marked counts unit
  inexact_wrong unit is = elim is [
    | inl unmarked ↦ inl ((are.owned_are unit).1 unmarked.0, λ has. unmarked.1 ((are.marked_are unit).0 has).1)
    | inr (inl two) ↦ inr (inl ((are.shared_are unit).1 two))
    | inr (inr wrong) ↦ inr (inr (wrong_unit w rows counts are.counts_are unit wrong))
  ]

  least_inexact : (unit : ℕ) → IsLeastUnit (IsWrong owned shared marked counts) unit → IsLeastInexact w rows unit
  least_inexact unit is =
      record { inexact = wrong_inexact unit is.holds; least = λ other less wrong. is.least other less (inexact_wrong other wrong) }

  none_inexact : ((unit : ℕ) → ¬ IsWrong owned shared marked counts unit) → IsExactAs w rows rows
  none_inexact none = record {
    marked = λ unit below is. elim (cases_Bool (set.contains owned unit)) [
      | inl has ↦ inl ((are.owned_are unit).0 has)
      | inr out ↦
          let free : ¬ IsOwned w rows unit = λ owns. let has = (are.owned_are unit).1 owns in cc in
          inr (record { is_unit = below; marked = is; unowned = free }, free)
    ];
    owned_marked = λ unit own. elim (cases_Bool (set.contains marked unit)) [
      | inl has ↦ ((are.marked_are unit).0 has).1
      | inr out ↦ absurd (none unit (inl ((are.owned_are unit).1 own, λ has. cc)))
    ];
    one_owner = λ unit. sole w rows unit (λ two. none unit (inr (inl ((are.shared_are unit).1 two))));
    counts = λ sbid index unit is has. elim (are.counts_are.right sbid index unit is has) [
      | inl among ↦ absurd (none among.0.unit (inr (inr (is_unit counts among.0 among.1.0))))
      | inr counted ↦ counted
    ];
  }

  pub found_exact : (found : Option ℕ) → IsLeastOf (IsWrong owned shared marked counts) found → found ≡ None → IsExactAs w rows rows
  found_exact found least is = none_inexact (subst (IsLeastOf (IsWrong owned shared marked counts)) is least)

  pub found_inexact : (found : Option ℕ) (unit : ℕ) → IsLeastOf (IsWrong owned shared marked counts) found → found ≡ Some unit → IsLeastInexact w rows unit
  found_inexact found unit least is = least_inexact unit (subst (IsLeastOf (IsWrong owned shared marked counts)) is least)
