-- The bits behind the operations of a transaction: no row is bad, the bitmap stays exact, and the units that are taken and left change their owners.
use Rattle.std.proofs.Common.{◌≡◌, ◌⊎◌, ◌↔◌, inl, inr, ℕ, ◌<◌, ◌^◌, List, Option, Contains, sym, subst, arith}
use Rattle.std.specs.Prelude.{slice_index}
use Rattle.meta_rows.specs.Prelude.{Rows, rows_after}
use Rattle.meta_rows.specs.declared.row_op.RowOp.{RowOp}
use Rattle.meta_log.specs.declared.slot.Super.{Super}
use Rattle.meta_log.specs.Prelude.{width_of}
use Rattle.unit_fields.specs.declared.width.Width.{Width}
use Rattle.store_image.specs.Prelude.{NoBadRow, Owner, page_of, Owns, IsDataUnit, IsOwned, IsMarked, IsLeaked, IsExactAs, HasSoleOwner}
use Rattle.bitmap_freelist.specs.Bitmap.{Has, AreAlikeButBits, ExactlyOne}
use Rattle.bitmap_freelist.proofs.Alike.{flips_alike, alike_counts, alike_owns}
use Rattle.bitmap_freelist.proofs.GoodBitmaps.{turned_good}
use Rattle.bitmap_freelist.proofs.Turning.{turn_their_units}
use Rattle.row_facts.proofs.Bits.{bits_stay}
use Rattle.plan_drafts.specs.Prelude.{Held, Layout, CollDraft, TurnsBits, Stands, Leaves, IsFreed}
use Rattle.plan_proofs.proofs.DraftCounts.{counts_after}
use Rattle.plan_proofs.proofs.DraftOwners.{taking_owns, owned_before, owned_after, left_was, sole_after, gone}
use Rattle.plan_proofs.proofs.Drafted.{AreDrafted}
use Rattle.plan_proofs.proofs.DraftRows.{bits_same, drafted_good}
use Rattle.plan_rows.proofs.OnData.{owned_on_data}

-- the units on which pages stand that were put, and those that pages or all pages of a slot have left
pub record AreTurned (w : Width) (rows : Rows) (layouts : List ℕ → Option Layout) (units : List ℕ) (y : CollDraft) (fresh released : List ℕ) : Type 0 where
  pub taken : (v : ℕ) → Contains fresh v ↔ ((taking : ℕ) × Stands y taking × (v ≡ slice_index units taking))
  pub left : (v : ℕ) → Contains released v ↔ (Leaves layouts y v ⊎ IsFreed w rows y.unshared v)

module _ (s : Super) (rows after : Rows) (c : List ℕ) (layouts : List ℕ → Option Layout) (units : List ℕ) (held : Held) (y : CollDraft)
    (a : AreDrafted s rows after c layouts units held y)
    (free : (taking : ℕ) → Stands y taking → ¬ IsOwned (width_of s) rows (slice_index units taking))
    (apart : (t u : ℕ) → Stands y t → Stands y u → slice_index units t ≡ slice_index units u → t ≡ u)
    (fresh released : List ℕ) (are : AreTurned (width_of s) rows layouts units y fresh released) (flips : List RowOp)
    (turns : TurnsBits fresh released flips) where
  abbrev pub last : Rows
  last = rows_after after flips

  pub alike : AreAlikeButBits after last
  alike = flips_alike after turns.units flips turns.are_flips

  pub same_owns : (owner : Owner) (v : ℕ) → Owns (width_of s) after owner v ↔ Owns (width_of s) last owner v
  same_owns owner v = alike_owns (width_of s) after last owner v alike

  to_last : (v : ℕ) → IsOwned (width_of s) after v → IsOwned (width_of s) last v
  to_last v owned = (owned.0, (same_owns owned.0 v).0 owned.1)

  of_last : (v : ℕ) → IsOwned (width_of s) last v → IsOwned (width_of s) after v
  of_last v owned = (owned.0, (same_owns owned.0 v).1 owned.1)

  -- ---- owners

  pub last_was : (v : ℕ) → Contains released v → IsOwned (width_of s) rows v
  last_was v k = left_was s rows after c layouts units held y a free apart v ((are.left v).0 k)

  pub last_owned : (v : ℕ) → IsOwned (width_of s) last v → Contains fresh v ⊎ IsOwned (width_of s) rows v
  last_owned v owned = elim (owned_before s rows after c layouts units held y a free apart v (of_last v owned)) [
    | inl t ↦ inl ((are.taken v).1 t)
    | inr was ↦ inr was
  ]

  pub last_left : (v : ℕ) → IsOwned (width_of s) rows v → IsOwned (width_of s) last v ⊎ Contains released v
  last_left v owned = elim (owned_after s rows after c layouts units held y a free apart v owned) [
    | inl still ↦ inl (to_last v still)
    | inr l ↦ inr ((are.left v).1 l)
  ]

  pub last_taken : (v : ℕ) → Contains fresh v → IsOwned (width_of s) last v
  last_taken v k =
      let t = (are.taken v).0 k in
      let owner = page_of c t.1.object t.1.page in
      let owns = taking_owns s rows after c layouts units held y a free apart t.0 t.1 in
      (owner, (same_owns owner v).0 (subst (Owns (width_of s) after owner) (sym t.2) owns))

  pub last_gone : (v : ℕ) → HasSoleOwner (width_of s) rows v → Contains released v → IsOwned (width_of s) last v → ⊥
  last_gone v sole k owned = gone s rows after c layouts units held y a free apart v sole ((are.left v).0 k) (of_last v owned)

  last_sole : (v : ℕ) → HasSoleOwner (width_of s) rows v → HasSoleOwner (width_of s) last v
  last_sole v sole p q owns too = sole_after s rows after c layouts units held y a free apart v sole p q ((same_owns p v).1 owns) ((same_owns q v).1 too)

  fresh_free : (v : ℕ) → Contains fresh v → ¬ IsOwned (width_of s) rows v
  fresh_free v k owned = let t = (are.taken v).0 k in free t.0 t.1 (subst (IsOwned (width_of s) rows) t.2 owned)

  -- ---- bits

  turned_is : (v : ℕ) → Has turns.units v ↔ (Contains fresh v ⊎ Contains released v)
  turned_is = turns.are_units

  turned_data : (v : ℕ) → Has turns.units v → IsDataUnit s v
  turned_data v turned = elim ((turned_is v).0 turned) [
    | inl k ↦ let t = (are.taken v).0 k in subst (IsDataUnit s) (sym t.2) (a.on_data t.0 t.1)
    | inr k ↦ owned_on_data s rows v a.good (last_was v k)
  ]

  pub last_good : NoBadRow s last
  last_good = turned_good s after turns.units flips turns.are_flips turned_data (drafted_good s rows after c layouts units held y a)

  same_marks : (v : ℕ) → IsMarked after v ↔ IsMarked rows v
  same_marks = bits_stay rows after (bits_same s rows after c layouts units held y a)

  bits : (v : ℕ) → v < 2 ^ 32 → IsMarked last v ↔ ExactlyOne (IsMarked after v) (Has turns.units v)
  bits v small = turn_their_units after turns.units flips turns.are_flips v small

  -- exactness, but for what other rows leak
  module _ (unmarked : (v : ℕ) → Contains fresh v → ¬ IsMarked rows v) (leaves : Rows) (exact : IsExactAs (width_of s) leaves rows) where
    -- a marked unit is owned or leaked
    last_marked : (v : ℕ) → v < 2 ^ 32 → IsMarked last v
        → IsOwned (width_of s) last v ⊎ (IsLeaked (width_of s) leaves v × ¬ IsOwned (width_of s) last v)
    last_marked v small is = elim ((bits v small).0 is) [
      | inl kept ↦ elim (exact.marked v small ((same_marks v).0 kept.0)) [
        | inl owned ↦ elim (last_left v owned) [ inl still ↦ inl still | inr k ↦ absurd (kept.1 ((turned_is v).1 (inr k))) ]
        | inr leaked ↦ inr (
          leaked.0,
          λ then. elim (last_owned v then) [ inl k ↦ unmarked v k ((same_marks v).0 kept.0) | inr owned ↦ leaked.1 owned ],
        )
      ]
      | inr turned ↦ elim ((turned_is v).0 turned.1) [
        | inl k ↦ inl (last_taken v k)
        | inr k ↦ absurd (turned.0 ((same_marks v).1 (exact.owned_marked v (last_was v k))))
      ]
    ]

    -- an owned one is marked
    last_owned_marked : (v : ℕ) → IsOwned (width_of s) last v → IsMarked last v
    last_owned_marked v is =
        let small : v < 2 ^ 32 = omega (arith, (owned_on_data s last v last_good is).1, a.units_most) in
        elim (last_owned v is) [
          | inl k ↦ (bits v small).1 (inr ((λ marked. unmarked v k ((same_marks v).0 marked)), (turned_is v).1 (inl k)))
          | inr owned ↦ (bits v small).1 (inl (
            (same_marks v).1 (exact.owned_marked v owned),
            λ turned. elim ((turned_is v).0 turned) [
              | inl k ↦ fresh_free v k owned
              | inr k ↦ last_gone v (exact.one_owner v) k is
            ],
          ))
        ]

    pub last_exact : IsExactAs (width_of s) leaves last
    last_exact = record {
      marked = last_marked;
      owned_marked = last_owned_marked;
      one_owner = λ v. last_sole v (exact.one_owner v);
      counts = alike_counts (width_of s) after last alike (counts_after s rows after c layouts units held y a);
    }
