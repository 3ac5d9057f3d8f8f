-- The layouts of all objects of a collection.
use Rattle.std.proofs.Common.{◌⊎◌, inl, inr, ℕ, zero, suc, ◌<◌, List, [], ◌∷◌, length, Option, None, arith}
use Rattle.std.specs.List.{AllByRecursion}
use Rattle.std.proofs.lemmas.Bool.{cases_lt}
use Rattle.meta_rows.specs.Prelude.{Rows}
use Rattle.meta_log.specs.declared.slot.Super.{Super}
use Rattle.meta_log.specs.Prelude.{width_of}
use Rattle.unit_fields.specs.Prelude.{IsName, IsCollName}
use Rattle.store_image.specs.Prelude.{NoBadRow}
use Rattle.plan_drafts.specs.Prelude.{Layout, HasLayout}
use Rattle.plan_proofs.proofs.LayoutOf.{object_in_rows}

zeros_or_none : (bytes : List ℕ) → AllByRecursion (λ b. 0 < b) bytes ⊎ (AllByRecursion (λ b. 0 < b) bytes → ⊥)
zeros_or_none [] = inl tt
zeros_or_none (zero ∷ bytes) = inr (λ a. omega (arith, a.0))
zeros_or_none (suc b ∷ bytes) = elim (zeros_or_none bytes) [ inl a ↦ inl (omega arith, a) | inr none ↦ inr (λ a. none a.1) ]

name_or_not : (o : List ℕ) → IsName o ⊎ (IsName o → ⊥)
name_or_not o = elim (cases_lt 0 (length o)) [
  | inr le ↦ inr (λ is. omega (arith, is.not_empty, le))
  | inl some ↦ elim (cases_lt 255 (length o)) [
    | inl long ↦ inr (λ is. omega (arith, is.short, long))
    | inr short ↦ elim (zeros_or_none o) [
      | inl a ↦ inl (record { not_empty = some; short = short; no_zero = a })
      | inr none ↦ inr (λ is. none is.no_zero)
    ]
  ]
]

pub all_layouts : (s : Super) (rows : Rows) (c : List ℕ) → NoBadRow s rows → IsCollName c
    → (layouts : List ℕ → Option Layout) × ((o : List ℕ) → IsName o → HasLayout (width_of s) rows c o (layouts o))
all_layouts s rows c good coll = (λ o. layout_if o (name_or_not o), λ o name. has_if o name (name_or_not o))
  where
    layout_if : (o : List ℕ) → IsName o ⊎ (IsName o → ⊥) → Option Layout
    layout_if o (inl name) = (object_in_rows s rows c o good coll name).layout
    layout_if o (inr none) = None

    has_if : (o : List ℕ) → IsName o → (z : IsName o ⊎ (IsName o → ⊥)) → HasLayout (width_of s) rows c o (layout_if o z)
    has_if o name (inl named) = (object_in_rows s rows c o good coll named).has
    has_if o name (inr none) = absurd (none name)
