-- Blobs that a transaction makes, and the homes that all have then.
use Rattle.std.proofs.Common.{◌≡◌, ◌≢◌, ◌⊎◌, inl, inr, ℕ, zero, suc, ◌+◌, ◌<◌, ◌≤◌, ◌^◌, List, [], ◌∷◌, ◌++◌, length, Option, Some, None, refl, sym, ap, subst, ◌∙◌, arith}
use Rattle.std.specs.Prelude.{Any, IsSome}
use Rattle.std.specs.List.{AllByRecursion}
use Rattle.std.specs.FinMap as finite
use Rattle.std.proofs.lemmas.Bool.{cases_lt}
use Rattle.meta_rows.specs.Prelude.{Rows, rows_after, key_of, LeaveAlone}
use Rattle.meta_rows.specs.declared.row_op.RowOp.{RowOp}
use Rattle.meta_rows.proofs.RowLemmas.{get-rows_after_other}
use Rattle.object_model.specs.Prelude.{is_named}
use Rattle.row_format.specs.Prelude.{shared_key}
use Rattle.store_image.specs.Prelude.{HasKey}
use Rattle.store_image.proofs.Prelude.{equal_or_not}
use Rattle.plan_rows.specs.Prelude.{IsKeyOfSome, IsKeyOfBlob, IsAboveBlobs, ChangesBlob, MakesBlob, AreOf}
use Rattle.plan_rows.proofs.Homes.{any_case, any_by, any_or_none}
use Rattle.store_steps.specs.Prelude.{Intent, rows_by, AreBlobsBelow}
use Rattle.selections.proofs.Order.{all_front}
use Rattle.space_facts.proofs.Lists.{all_rest, all_join}

-- ---- which blobs operations change and make

pub changes_or_not : (ops : List RowOp) (sbid : ℕ) → ChangesBlob ops sbid ⊎ ¬ ChangesBlob ops sbid
changes_or_not ops sbid = elim (cases_lt sbid (2 ^ 64)) [
  | inl low ↦ elim (any_or_none (λ op. key_of op ≡ shared_key sbid) (λ op. equal_or_not (key_of op) (shared_key sbid)) ops) [
    | inl any ↦ inl (low, any)
    | inr none ↦ inr (λ c. none c.1)
  ]
  | inr high ↦ inr (λ c. absurd (omega (arith, high, c.0)))
]

pub row_or_not : (rows : Rows) (sbid : ℕ) → HasKey rows (shared_key sbid) ⊎ (finite.get rows (shared_key sbid) ≡ None)
row_or_not rows sbid = elim (finite.get rows (shared_key sbid)) as
    (λ z. finite.get rows (shared_key sbid) ≡ z → HasKey rows (shared_key sbid) ⊎ (finite.get rows (shared_key sbid) ≡ None)) [
      | None ↦ λ p. inr p
      | Some v ↦ λ p. inl (subst (λ (z : Option (List ℕ)). IsSome z) (sym p) refl)
    ] refl

makes_or_not : (view : Rows) (ops : List RowOp) (sbid : ℕ) → MakesBlob view ops sbid ⊎ ¬ MakesBlob view ops sbid
makes_or_not view ops sbid = elim (changes_or_not ops sbid) [
  | inr not ↦ inr (λ m. not m.changes)
  | inl c ↦ elim (finite.get view (shared_key sbid)) as (λ z. finite.get view (shared_key sbid) ≡ z → MakesBlob view ops sbid ⊎ ¬ MakesBlob view ops sbid) [
    | None ↦ λ p. inl (record { changes = c; new = p })
    | Some v ↦ λ p. inr (λ m. absurd (let t = sym p ∙ m.new in cc))
  ] refl
]

-- ---- homes

-- those that the operations make are at home here, the others where they were
module _ (view : Rows) (ops : List RowOp) (here : List ℕ) (old : ℕ → List ℕ) where
  pub home_with : ℕ → List ℕ
  home_with sbid = elim (makes_or_not view ops sbid) [ inl m ↦ here | inr not ↦ old sbid ]

  pub home_made : (sbid : ℕ) → MakesBlob view ops sbid → home_with sbid ≡ here
  unfolding home_with
  home_made sbid made = elim (makes_or_not view ops sbid) as (λ z. elim z [ inl m ↦ here | inr not ↦ old sbid ] ≡ here) [
    | inl m ↦ refl
    | inr not ↦ absurd (not made)
  ]

  pub home_kept : (sbid : ℕ) → ¬ MakesBlob view ops sbid → home_with sbid ≡ old sbid
  unfolding home_with
  home_kept sbid not = elim (makes_or_not view ops sbid) as (λ z. elim z [ inl m ↦ here | inr not ↦ old sbid ] ≡ old sbid) [
    | inl m ↦ absurd (not m)
    | inr none ↦ refl
  ]

-- ---- operations on blobs that have another home

any_left : {X : Type 0} (P : X → Type 0) (xs ys : List X) → Any P xs → Any P (xs ++ ys)
any_left P [] ys any = absurd (omega (arith, any.2))
any_left P (x ∷ xs) ys any = elim (any_case P x xs any) [
  | inl p ↦ any_by P x (xs ++ ys) (inl p)
  | inr later ↦ any_by P x (xs ++ ys) (inr (any_left P xs ys later))
]

module _ (home other : ℕ → List ℕ) (names : List (List ℕ)) where
  abbrev IsOn : (ℕ → List ℕ) → RowOp → Type 0
  IsOn at op = IsKeyOfSome names (key_of op) ⊎ IsKeyOfBlob at names (key_of op)

  keys_to : (own : List RowOp) → ((sbid : ℕ) → sbid < 2 ^ 64 → Any (λ op. key_of op ≡ shared_key sbid) own → other sbid ≡ home sbid)
      → AllByRecursion (IsOn home) own → AllByRecursion (IsOn other) own
  keys_to [] same keys = tt
  keys_to (op ∷ own) same keys = (
    elim keys.0 [
      | inl mine ↦ inl mine
      | inr blob ↦ inr (record {
        sbid = blob.sbid;
        small = blob.small;
        among = ap (λ c. is_named c names) (same blob.sbid blob.small (any_by _ op own (inl blob.is))) ∙ blob.among;
        is = blob.is;
      })
    ],
    keys_to own (λ sbid small any. same sbid small (any_by _ op own (inr any))) keys.1,
  )

  pub of_other : (taken released : List ℕ) (ops : List RowOp) → AreOf home names taken released ops
      → ((sbid : ℕ) → ChangesBlob ops sbid → other sbid ≡ home sbid) → AreOf other names taken released ops
  of_other taken released ops of same = record {
    named = of.named;
    own = of.own;
    flips = of.flips;
    is = of.is;
    keys = keys_to of.own (λ sbid small any. same sbid (small, subst (Any (λ op. key_of op ≡ shared_key sbid)) (sym of.is)
        (any_left (λ op. key_of op ≡ shared_key sbid) of.own of.flips any))) of.keys;
    turns = of.turns;
  }

-- ---- numbers

-- operations that are on no row of the blob leave it alone
left_alone : (ops : List RowOp) (sbid : ℕ) → ¬ Any (λ op. key_of op ≡ shared_key sbid) ops → LeaveAlone ops (shared_key sbid)
left_alone [] sbid none = tt
left_alone (op ∷ ops) sbid none =
    (λ e. none (any_by _ op ops (inl e)), left_alone ops sbid (λ any. none (any_by _ op ops (inr any))))

-- a blob that has a row after operations had one, or they change it
held_before : (rows : Rows) (ops : List RowOp) (sbid : ℕ) → sbid < 2 ^ 64 → HasKey (rows_after rows ops) (shared_key sbid)
    → HasKey rows (shared_key sbid) ⊎ ChangesBlob ops sbid
held_before rows ops sbid small has = elim (changes_or_not ops sbid) [
  | inl c ↦ inr c
  | inr not ↦
      inl (subst (λ (z : Option (List ℕ)). IsSome z) (get-rows_after_other rows ops (shared_key sbid) (left_alone ops sbid (λ any. not (small, any)))) has)
]

-- so are the rows of blobs after intents
held_by : (next : ℕ) (xs : List Intent) (rows : Rows) → IsAboveBlobs next rows
    → AllByRecursion (λ x. (sbid : ℕ) → ChangesBlob x.ops sbid → sbid < next) xs → IsAboveBlobs next (rows_by rows xs)
held_by next [] rows above all = above
held_by next (x ∷ xs) rows above all = held_by next xs (rows_after rows x.ops) (λ sbid small has. elim (held_before rows x.ops sbid small has) [
  | inl was ↦ above sbid small was
  | inr changes ↦ all.0 sbid changes
]) all.1

pub above_after : (next : ℕ) (rows : Rows) (xs : List Intent) → AreBlobsBelow next rows xs → IsAboveBlobs next (rows_by rows xs)
above_after next rows xs below = held_by next xs rows below.held below.changed

pub below_none : (next : ℕ) (rows : Rows) → IsAboveBlobs next rows → AreBlobsBelow next rows []
below_none next rows above = record { held = above; changed = tt }

abbrev All : ℕ → List Intent → Type 0
All next xs = AllByRecursion (λ x. (sbid : ℕ) → ChangesBlob x.ops sbid → sbid < next) xs

raised : (next more : ℕ) (xs : List Intent) → All next xs → All (next + more) xs
raised next more [] all = tt
raised next more (x ∷ xs) all = ((λ sbid changes. omega (arith, all.0 sbid changes)), raised next more xs all.1)

-- one more that makes blobs with the next numbers
pub below_joined : (next more : ℕ) (rows : Rows) (xs : List Intent) (x : Intent) → AreBlobsBelow next rows xs
    → ((sbid : ℕ) → MakesBlob (rows_by rows xs) x.ops sbid → sbid < next + more) → AreBlobsBelow (next + more) rows (xs ++ x ∷ [])
below_joined next more rows xs x below makes = record {
  held = λ sbid small has. omega (arith, below.held sbid small has);
  changed = all_join (λ y. (sbid : ℕ) → ChangesBlob y.ops sbid → sbid < next + more) xs (x ∷ []) (raised next more xs below.changed) (last, tt);
}
  where
    last : (sbid : ℕ) → ChangesBlob x.ops sbid → sbid < next + more
    last sbid changes = elim (row_or_not (rows_by rows xs) sbid) [
      | inl has ↦ omega (arith, above_after next rows xs below sbid changes.0 has)
      | inr none ↦ makes sbid (record { changes = changes; new = none })
    ]

-- a commit
pub below_committed : (next : ℕ) (rows : Rows) (batch pending : List Intent) → AreBlobsBelow next rows (batch ++ pending)
    → AreBlobsBelow next (rows_by rows batch) pending
below_committed next rows batch pending below = record {
  held = held_by next batch rows below.held (all_front (λ x. (sbid : ℕ) → ChangesBlob x.ops sbid → sbid < next) batch pending below.changed);
  changed = all_rest (λ x. (sbid : ℕ) → ChangesBlob x.ops sbid → sbid < next) batch pending below.changed;
}

-- what is new to the submitted rows is new to the committed ones, and changed by none
pub unmade_by : (next : ℕ) (rows : Rows) (xs : List Intent) (sbid : ℕ) → AreBlobsBelow next rows xs → sbid < 2 ^ 64 → next ≤ sbid
    → (finite.get rows (shared_key sbid) ≡ None) × AllByRecursion (λ y. ¬ ChangesBlob y.ops sbid) xs
unmade_by next rows xs sbid below small from = (
  elim (row_or_not rows sbid) [
    | inl has ↦ absurd (omega (arith, below.held sbid small has, from))
    | inr none ↦ none
  ],
  none_changes xs below.changed,
)
  where
    none_changes : (ys : List Intent) → All next ys → AllByRecursion (λ y. ¬ ChangesBlob y.ops sbid) ys
    none_changes [] all = tt
    none_changes (y ∷ ys) all = ((λ changes. omega (arith, all.0 sbid changes, from)), none_changes ys all.1)
