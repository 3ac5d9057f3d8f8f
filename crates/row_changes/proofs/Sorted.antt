-- Rows brought into the order of their keys, and the last of each key.
use Rattle.std.proofs.Common.{◌≡◌, ℕ, suc, ◌+◌, ◌<◌, Bool, true, false, cond, not, List, [], ◌∷◌, ◌++◌, length, get_or, Option, None, Some, refl, sym, ap, subst, ◌∙◌, arith, append_assoc, append-nil}
use Rattle.std.specs.Prelude.{◌&&◌}
use Rattle.std.specs.List.{filter, AllByRecursion}
use Rattle.std.specs.List.Sorted.{ties, IsStableBy, IsSortedBy}
use Rattle.std.specs.Ordering.{is_lt, ordering_reverse}
use Rattle.std.specs.declared.cmp.Ordering.TheVariants.{Less, Equal, Greater}
use Rattle.std.specs.Cmp.{IsStrictWeakOrder, tied_itself}
use Rattle.std.specs.Cmp.Lexicographic.{nat_list_cmp_total}
use Rattle.std.proofs.lemmas.List.Sorted.{sorted_far}
use Rattle.byte_maps.specs.ByteMap.{byte_order}
use Rattle.byte_maps.proofs.Prelude.{same_bytes}
use Rattle.object_model.specs.Prelude.{is_same}
use Rattle.meta_rows.specs.Prelude.{Rows}
use Rattle.meta_rows.specs.declared.row_op.RowOp.{RowOp}
use Rattle.row_changes.specs.declared.row_change.RowChange.{RowChange}
use Rattle.row_changes.specs.Log.{op_of, ops_of, last_for, ChangesRise, kept, kept_of, lasts}
use Rattle.row_changes.proofs.Keys.{same_itself, same_or_not}
use Rattle.row_changes.proofs.Puts.{all_map, Ascend, puts_append}

-- by its key
abbrev pub is_before : RowChange → RowChange → Bool
is_before a b = is_lt (byte_order a.key b.key)

-- ---- the same for each key

of_its_key : (key : List ℕ) (x : RowChange) → is_same x.key key ≡ true → ties is_before (record { key = key; value = None }) x ≡ true
of_its_key key x is = same_or_not (ties is_before (record { key = key; value = None }) x ≡ true) x.key key
    (λ one t. subst (λ (k : List ℕ). not (is_lt (byte_order key k)) && not (is_lt (byte_order k key)) ≡ true) (sym one)
    (ap (λ o. not (is_lt o) && not (is_lt o)) (tied_itself nat_list_cmp_total key)))
    (λ apart f. let clash : true ≡ false = sym is ∙ f in absurd cc)

-- those of other keys may be left out
only_its_own : (p : RowChange → Bool) (key : List ℕ) → ((x : RowChange) → is_same x.key key ≡ true → p x ≡ true) → (xs : List RowChange)
    → (old : Option (List ℕ)) → last_for ((filter p xs)) key old ≡ last_for xs key old
only_its_own p key its [] old = refl
only_its_own p key its (x ∷ xs) old = elim (p x) as (λ (b : Bool). p x ≡ b
    → last_for (cond b (x ∷ filter p xs) (filter p xs)) key old ≡ last_for xs key (cond (is_same x.key key) x.value old)) [
      | true ↦ λ is. only_its_own p key its xs (cond (is_same x.key key) x.value old)
      | false ↦ λ not_its. only_its_own p key its xs old
          ∙ ap (last_for xs key) (elim (is_same x.key key) as (λ (b : Bool). is_same x.key key ≡ b → old ≡ cond b x.value old) [
            | true ↦ λ is. let clash : true ≡ false = sym (its x is) ∙ not_its in absurd cc
            | false ↦ λ f. refl
          ] refl)
    ] refl

pub in_another_order : (xs ys : List RowChange) → IsStableBy is_before xs ys → (key : List ℕ) (old : Option (List ℕ))
    → last_for ys key old ≡ last_for xs key old
in_another_order xs ys stable key old =
    let tied : RowChange → Bool = ties is_before (record { key = key; value = None }) in
    sym (only_its_own tied key (of_its_key key) ys old)
    ∙ ap (λ (l : List RowChange). last_for l key old) (stable (record { key = key; value = None }))
    ∙ only_its_own tied key (of_its_key key) xs old

-- ---- in order

rises_from : (x : RowChange) (xs : List RowChange) → ((j : ℕ) → j < length xs → is_before (get_or xs j x) x ≡ false)
    → AllByRecursion (λ later. is_lt (byte_order later.key x.key) ≡ false) xs
rises_from x [] h = tt
rises_from x (y ∷ xs) h = (h 0 (omega arith), rises_from x xs (λ j l. h (suc j) (omega (arith, l))))

pub rises : (xs : List RowChange) → IsStrictWeakOrder is_before → IsSortedBy is_before xs → ChangesRise xs
rises [] o up = tt
rises (x ∷ xs) o up = (
  rises_from x xs (λ j l. sorted_far is_before o (x ∷ xs) up 0 (suc j) x (omega arith) (omega (arith, l))),
  rises xs o (λ k d low high.
      let on : suc k + 1 ≡ suc (k + 1) = omega arith in
      subst (λ (n : ℕ). is_before (get_or (x ∷ xs) n d) (get_or xs k d) ≡ false) on (up (suc k) d (omega arith) (omega (arith, high)))),
)

-- ---- the last of each key

-- a key that isn't below another and isn't the same is above it
above : (a b : List ℕ) → is_lt (byte_order b a) ≡ false → is_same a b ≡ false → byte_order a b ≡ Less
above a b low apart = elim (byte_order a b) as (λ o. byte_order a b ≡ o → o ≡ Less) [
  | Less ↦ λ is. refl
  | Equal ↦ λ is. let clash : true ≡ false = sym (same_itself a) ∙ ap (is_same a) (same_bytes a b is) ∙ apart in absurd cc
  | Greater ↦ λ is.
      let turned : byte_order b a ≡ Less = nat_list_cmp_total.antisymm b a ∙ ap ordering_reverse is in
      let clash : true ≡ false = sym (ap is_lt turned) ∙ low in absurd cc
] refl

-- and above it is what isn't below the other
above_later : (a b c : List ℕ) → byte_order a b ≡ Less → is_lt (byte_order c b) ≡ false → byte_order a c ≡ Less
above_later a b c less low = same_or_not (byte_order a c ≡ Less) b c
    (λ one t. subst (λ (k : List ℕ). byte_order a k ≡ Less) one less)
    (λ apart f. nat_list_cmp_total.trans a b c less (above b c low f))

pub lasts_all : (P : RowChange → Type 0) (ws : List RowChange) → AllByRecursion P ws → AllByRecursion P (lasts ws)
lasts_all P [] all = tt
lasts_all P (w ∷ []) all = (all.0, tt)
lasts_all P (w ∷ x ∷ xs) all = elim (is_same w.key x.key) as (λ (b : Bool). AllByRecursion P (cond b [] (w ∷ []) ++ lasts (x ∷ xs))) [
  | true ↦ lasts_all P (x ∷ xs) all.1
  | false ↦ (all.0, lasts_all P (x ∷ xs) all.1)
]

pub lasts_ascend : (ws : List RowChange) → ChangesRise ws → Ascend (lasts ws)
lasts_ascend [] up = tt
lasts_ascend (w ∷ []) up = (tt, tt)
lasts_ascend (w ∷ x ∷ xs) up = elim (is_same w.key x.key) as (λ (b : Bool). is_same w.key x.key ≡ b → Ascend (cond b [] (w ∷ []) ++ lasts (x ∷ xs))) [
  | true ↦ λ is. lasts_ascend (x ∷ xs) up.1
  | false ↦ λ apart.
      let first : byte_order w.key x.key ≡ Less = above w.key x.key up.0.0 apart in
      let rest : AllByRecursion (λ later. byte_order w.key later.key ≡ Less) xs =
      all_map (λ later. is_lt (byte_order later.key x.key) ≡ false) (λ later. byte_order w.key later.key ≡ Less)
      (λ later low. above_later w.key x.key later.key first low) xs up.1.0 in
      (lasts_all (λ later. byte_order w.key later.key ≡ Less) (x ∷ xs) (first, rest), lasts_ascend (x ∷ xs) up.1)
] refl

pub lasts_same : (ws : List RowChange) (key : List ℕ) (old : Option (List ℕ)) → last_for (lasts ws) key old ≡ last_for ws key old
lasts_same [] key old = refl
lasts_same (w ∷ []) key old = refl
lasts_same (w ∷ x ∷ xs) key old = elim (is_same w.key x.key) as (λ (b : Bool). is_same w.key x.key ≡ b
    → last_for (cond b [] (w ∷ []) ++ lasts (x ∷ xs)) key old ≡ last_for xs key (cond (is_same x.key key) x.value (cond (is_same w.key key) w.value old))) [
      | true ↦ λ is. lasts_same (x ∷ xs) key old ∙ ap (last_for xs key) (hidden is)
      | false ↦ λ not. lasts_same (x ∷ xs) key (cond (is_same w.key key) w.value old)
    ] refl
  where
    hidden : is_same w.key x.key ≡ true → cond (is_same x.key key) x.value old ≡ cond (is_same x.key key) x.value (cond (is_same w.key key) w.value old)
    hidden is = same_or_not (cond (is_same x.key key) x.value old ≡ cond (is_same x.key key) x.value (cond (is_same w.key key) w.value old)) w.key x.key
        (λ one t. subst (λ (k : List ℕ). cond (is_same k key) x.value old ≡ cond (is_same k key) x.value (cond (is_same w.key key) w.value old)) one
        (elim (is_same w.key key) as (λ (b : Bool). cond b x.value old ≡ cond b x.value (cond b w.value old)) [
          | true ↦ refl
          | false ↦ refl
        ]))
        (λ apart f. let clash : true ≡ false = sym is ∙ f in absurd cc)

-- ---- one row after the other

pub no_items : (xs : List RowChange) → length xs ≡ 0 → xs ≡ []
no_items [] none = refl
no_items (x ∷ xs) none = absurd (omega (arith, none))

abbrev pub held_all : Option RowChange → List RowChange
held_all None = []
held_all (Some x) = x ∷ []

module _ (rows : Rows) where
  -- the one before is put, unless the next has its key
  pub next_put : (ops : List RowOp) (held : Option RowChange) (next : RowChange) (rest : List RowChange)
      → (ops ++ ops_of rows (kept_of held next)) ++ ops_of rows (lasts (next ∷ rest))
      ≡ ops ++ ops_of rows (lasts (held_all held ++ next ∷ rest))
  next_put ops None next rest = ap (λ (l : List RowOp). l ++ ops_of rows (lasts (next ∷ rest))) (append-nil ops)
  next_put ops (Some x) next rest =
      append_assoc ops (ops_of rows (kept x (next ∷ []))) (ops_of rows (lasts (next ∷ rest)))
      ∙ ap (λ (l : List RowOp). ops ++ l) (sym (puts_append rows (kept x (next ∷ [])) (lasts (next ∷ rest))))

  pub last_put : (ops : List RowOp) (x : RowChange) → ops ++ op_of rows x ≡ ops ++ ops_of rows (lasts (held_all (Some x) ++ []))
  last_put ops x = ap (λ (l : List RowOp). ops ++ l) (sym (append-nil (op_of rows x)))

  pub none_put : (ops : List RowOp) (held : Option RowChange) → held ≡ None → ops ≡ ops ++ ops_of rows (lasts (held_all held ++ []))
  none_put ops held none = sym (ap (λ h. ops ++ ops_of rows (lasts (held_all h ++ []))) none ∙ append-nil ops)
