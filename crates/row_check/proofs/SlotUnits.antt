-- The units of slots with wrong counts.
use Rattle.std.proofs.Common.{◌≡◌, ◌⊎◌, inl, inr, ℕ, ◌<◌, ◌≤◌, map, List, [], ◌∷◌, length, get_or, refl, sym, ap, subst, ◌∙◌, arith}
use Rattle.std.specs.List.{AllByRecursion}
use Rattle.unit_fields.specs.declared.width.Width.{Width}
use Rattle.meta_rows.specs.Prelude.{Rows}
use Rattle.store_image.specs.Prelude.{HasWrongCount}
use Rattle.ordered_lists.specs.Lists.{IsIn, Ascend}
use Rattle.ordered_lists.proofs.Joining.{each_in}
use Rattle.findings.specs.Findings.{SlotCount, SlotBefore, IsWrongCount}
use Rattle.row_check.specs.Least.{IsLeastUnit, IsLeastOf, IsUnitOfSlots}
use Rattle.row_check.specs.Tallies.{AreWrongCounts}

abbrev unit_of : SlotCount → ℕ
unit_of x = x.unit

-- the unit of each of them, and none else
pub is_unit : (xs : List SlotCount) (x : SlotCount) → IsIn x xs → IsUnitOfSlots xs x.unit
is_unit [] x is = absurd is
is_unit (y ∷ xs) x (inl same) = inl (ap unit_of same)
is_unit (y ∷ xs) x (inr is) = inr (is_unit xs x is)

pub slot_at : (xs : List SlotCount) (unit : ℕ) → IsUnitOfSlots xs unit → (x : SlotCount) × (IsIn x xs × (x.unit ≡ unit))
slot_at [] unit is = absurd is
slot_at (y ∷ xs) unit (inl same) = (y, (inl refl, same))
slot_at (y ∷ xs) unit (inr is) = let x = slot_at xs unit is in (x.0, (inr x.1.0, x.1.1))

not_below : (x y : SlotCount) → SlotBefore x y → x.unit ≤ y.unit
not_below x y (inl less) = omega (arith, less)
not_below x y (inr same) = omega (arith, same.0)

first_least : (x : SlotCount) (xs : List SlotCount) → Ascend SlotBefore (x ∷ xs) → IsLeastUnit (IsUnitOfSlots (x ∷ xs)) x.unit
first_least x xs up = record {
  holds = inl refl;
  least = λ other less is. elim is [
    | inl same ↦ omega (arith, less, same)
    | inr later ↦
        let y = slot_at xs other later in
        omega (arith, less, y.1.1, not_below x y.0 (each_in (SlotBefore x) xs y.0 up.0 y.1.0))
  ];
}

pub front_least : (xs : List SlotCount) (d : SlotCount) → 0 < length xs → Ascend SlotBefore xs → IsLeastUnit (IsUnitOfSlots xs) (get_or xs 0 d).unit
front_least [] d some up = absurd (omega (arith, some))
front_least (x ∷ xs) d some up = first_least x xs up

pub none_of_none : (xs : List SlotCount) → length xs ≡ 0 → (unit : ℕ) → IsUnitOfSlots xs unit → ⊥
none_of_none [] none unit is = is
none_of_none (x ∷ xs) none unit is = omega (arith, none)

-- they are the units with wrong counts
module _ (w : Width) (rows : Rows) (xs : List SlotCount) (are : AreWrongCounts w rows xs) where
  pub unit_wrong : (unit : ℕ) → IsUnitOfSlots xs unit → HasWrongCount w rows unit
  unit_wrong unit is =
      let x = slot_at xs unit is in
      let wrong : IsWrongCount w rows x.0 = each_in (IsWrongCount w rows) xs x.0 are.lists.each x.1.0 in
      subst (HasWrongCount w rows) x.1.1 (record {
        sbid = x.0.sbid;
        index = x.0.index;
        is = wrong.is;
        has_slot = wrong.has_slot;
        counted = x.0.counted;
        is_counted = wrong.is_counted;
        differs = wrong.differs;
      })

  pub wrong_unit : (unit : ℕ) → HasWrongCount w rows unit → IsUnitOfSlots xs unit
  wrong_unit unit is =
      let x : SlotCount = record { unit = unit; sbid = is.sbid; index = is.index; kept = is.is.count; counted = is.counted } in
      is_unit xs x (are.lists.all x (record {
        is = is.is;
        has_slot = is.has_slot;
        is_kept = refl;
        is_counted = is.is_counted;
        differs = is.differs;
      }))
