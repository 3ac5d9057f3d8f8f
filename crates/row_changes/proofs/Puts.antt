-- What operations make of rows that are to be so.
use Rattle.std.proofs.Common.{◌≡◌, ◌≢◌, ℕ, Bool, true, false, cond, List, [], ◌∷◌, ◌++◌, Option, Some, None, is_some, refl, sym, ap, subst, ◌∙◌, append_assoc}
use Rattle.std.specs.List.{AllByRecursion}
use Rattle.std.specs.FinMap.{get}
use Rattle.std.specs.declared.cmp.Ordering.TheVariants.{Less}
use Rattle.byte_maps.specs.ByteMap.{byte_order}
use Rattle.object_model.specs.Prelude.{is_same}
use Rattle.meta_rows.specs.Prelude.{Rows, row_after, rows_after, key_of}
use Rattle.meta_rows.specs.declared.row_op.RowOp.{RowOp}
use Rattle.meta_rows.proofs.RowLemmas.{get-insert_same, get-remove_same, get-row_after_other}
use Rattle.plan_rows.specs.Prelude.{Changes, KeysAscend}
use Rattle.row_changes.specs.declared.row_change.RowChange.{RowChange}
use Rattle.row_changes.specs.Log.{is_value, op_to, op_of, ops_of, last_for}
use Rattle.row_changes.proofs.Keys.{same_itself, same_or_not, less_apart}

-- each key is above those before it
abbrev pub Ascend : List RowChange → Type 0
Ascend [] = Unit {0}
Ascend (c ∷ cs) = AllByRecursion (λ later. byte_order c.key later.key ≡ Less) cs × Ascend cs

pub all_append : {X : Type 0} (P : X → Type 0) (xs ys : List X) → AllByRecursion P xs → AllByRecursion P ys → AllByRecursion P (xs ++ ys)
all_append P [] ys p q = q
all_append P (x ∷ xs) ys p q = (p.0, all_append P xs ys p.1 q)

pub all_map : {X : Type 0} (P Q : X → Type 0) → ((x : X) → P x → Q x) → (xs : List X) → AllByRecursion P xs → AllByRecursion Q xs
all_map P Q f [] all = tt
all_map P Q f (x ∷ xs) all = (f x all.0, all_map P Q f xs all.1)

-- ---- one operation

op_key : (key : List ℕ) (value : Option (List ℕ)) → key_of (op_to key value) ≡ key
op_key key None = refl
op_key key (Some value) = refl

-- a row that has the value, and one that doesn't
value_is : (held value : Option (List ℕ)) → is_value held value ≡ true → held ≡ value
value_is None None is = refl
value_is None (Some y) is = absurd cc
value_is (Some x) None is = absurd cc
value_is (Some x) (Some y) is = same_or_not (Some x ≡ Some y) x y (λ one t. ap Some one) (λ apart not. let clash : true ≡ false = sym is ∙ not in absurd cc)

value_not : (held value : Option (List ℕ)) → is_value held value ≡ false → held ≢ value
value_not None None is one = absurd cc
value_not None (Some y) is one = absurd cc
value_not (Some x) None is one = absurd cc
value_not (Some x) (Some y) is one =
    let inner : x ≡ y = cc in
    let clash : true ≡ false = sym (same_itself x) ∙ ap (is_same x) inner ∙ is in cc

changes_op : (rows : Rows) (key : List ℕ) (value : Option (List ℕ)) → get rows key ≢ value → Changes rows (op_to key value)
changes_op rows key (Some value) apart = apart
changes_op rows key None apart = there (get rows key) apart
  where
    there : (held : Option (List ℕ)) → held ≢ None → is_some held ≡ true
    there None apart = absurd (apart refl)
    there (Some x) apart = refl

-- what stands under a key after it
after_op : (now : Rows) (key : List ℕ) (value : Option (List ℕ)) (other : List ℕ)
    → get (row_after now (op_to key value)) other ≡ cond (is_same key other) value (get now other)
after_op now key value other = same_or_not (get (row_after now (op_to key value)) other ≡ cond (is_same key other) value (get now other)) key other
    (λ one same. ap (get (row_after now (op_to key value))) (sym one) ∙ own value ∙ ap (λ b. cond b value (get now other)) (sym same))
    (λ apart not. get-row_after_other now (op_to key value) other (λ is. apart (sym (op_key key value) ∙ is))
    ∙ ap (λ b. cond b value (get now other)) (sym not))
  where
    own : (value : Option (List ℕ)) → get (row_after now (op_to key value)) key ≡ value
    own (Some v) = get-insert_same now key v
    own None = get-remove_same now key

-- ---- all of them

module _ (rows : Rows) where
  -- what holds of the keys holds of the operations' keys
  pub put_keys : (P : List ℕ → Type 0) (cs : List RowChange) → AllByRecursion (λ c. P c.key) cs → AllByRecursion (λ op. P (key_of op)) (ops_of rows cs)
  put_keys P [] all = tt
  put_keys P (c ∷ cs) all = all_append (λ op. P (key_of op)) (op_of rows c) (ops_of rows cs)
      (elim (is_value (get rows c.key) c.value) as (λ (b : Bool). AllByRecursion (λ op. P (key_of op)) (cond b [] (op_to c.key c.value ∷ []))) [
        | true ↦ tt
        | false ↦ (subst P (sym (op_key c.key c.value)) all.0, tt)
      ])
      (put_keys P cs all.1)

  pub puts_ascend : (cs : List RowChange) → Ascend cs → KeysAscend (ops_of rows cs)
  puts_ascend [] up = tt
  puts_ascend (c ∷ cs) up = elim (is_value (get rows c.key) c.value) as (λ (b : Bool). KeysAscend (cond b [] (op_to c.key c.value ∷ []) ++ ops_of rows cs)) [
    | true ↦ puts_ascend cs up.1
    | false ↦ (
      subst (λ key. AllByRecursion (λ later. byte_order key (key_of later) ≡ Less) (ops_of rows cs)) (sym (op_key c.key c.value))
          (put_keys (λ key. byte_order c.key key ≡ Less) cs up.0),
      puts_ascend cs up.1,
    )
  ]

  pub puts_change : (cs : List RowChange) → AllByRecursion (Changes rows) (ops_of rows cs)
  puts_change [] = tt
  puts_change (c ∷ cs) = all_append (Changes rows) (op_of rows c) (ops_of rows cs)
      (elim (is_value (get rows c.key) c.value) as
      (λ (b : Bool). is_value (get rows c.key) c.value ≡ b → AllByRecursion (Changes rows) (cond b [] (op_to c.key c.value ∷ []))) [
        | true ↦ λ is. tt
        | false ↦ λ not. (changes_op rows c.key c.value (value_not (get rows c.key) c.value not), tt)
      ] refl)
      (puts_change cs)

  -- these rows are as they were at first
  abbrev AreStill : Rows → List RowChange → Type 0
  AreStill now cs = AllByRecursion (λ c. get now c.key ≡ get rows c.key) cs

  stay : (now : Rows) (key : List ℕ) (value : Option (List ℕ)) (cs : List RowChange) → AllByRecursion (λ later. byte_order key later.key ≡ Less) cs
      → AreStill now cs → AreStill (row_after now (op_to key value)) cs
  stay now key value [] above still = tt
  stay now key value (c ∷ cs) above still = (
    get-row_after_other now (op_to key value) c.key (λ is. less_apart key c.key above.0 (sym (op_key key value) ∙ is)) ∙ still.0,
    stay now key value cs above.1 still.1,
  )

  -- a row that is so already
  is_so : (now : Rows) (key : List ℕ) (value : Option (List ℕ)) (other : List ℕ) → get now key ≡ value
      → get now other ≡ cond (is_same key other) value (get now other)
  is_so now key value other is = same_or_not (get now other ≡ cond (is_same key other) value (get now other)) key other
      (λ one same. ap (get now) (sym one) ∙ is ∙ ap (λ b. cond b value (get now other)) (sym same))
      (λ apart not. ap (λ b. cond b value (get now other)) (sym not))

  after_puts : (now : Rows) (cs : List RowChange) (key : List ℕ) → Ascend cs → AreStill now cs
      → get (rows_after now (ops_of rows cs)) key ≡ last_for cs key (get now key)
  after_puts now [] key up still = refl
  after_puts now (c ∷ cs) key up still = elim (is_value (get rows c.key) c.value) as (λ (b : Bool). is_value (get rows c.key) c.value ≡ b
      → get (rows_after now (cond b [] (op_to c.key c.value ∷ []) ++ ops_of rows cs)) key ≡ last_for cs key (cond (is_same c.key key) c.value (get now key))) [
        | true ↦ λ is. after_puts now cs key up.1 still.1
            ∙ ap (last_for cs key) (is_so now c.key c.value key (still.0 ∙ value_is (get rows c.key) c.value is))
        | false ↦ λ not. after_puts (row_after now (op_to c.key c.value)) cs key up.1 (stay now c.key c.value cs up.0 still.1)
            ∙ ap (last_for cs key) (after_op now c.key c.value key)
      ] refl

  as_they_are : (cs : List RowChange) → AreStill rows cs
  as_they_are [] = tt
  as_they_are (c ∷ cs) = (refl, as_they_are cs)

  pub makes_all : (cs : List RowChange) (key : List ℕ) → Ascend cs → get (rows_after rows (ops_of rows cs)) key ≡ last_for cs key (get rows key)
  makes_all cs key up = after_puts rows cs key up (as_they_are cs)

  pub puts_append : (a b : List RowChange) → ops_of rows (a ++ b) ≡ ops_of rows a ++ ops_of rows b
  puts_append [] b = refl
  puts_append (c ∷ a) b = ap (λ (l : List RowOp). op_of rows c ++ l) (puts_append a b) ∙ sym (append_assoc (op_of rows c) (ops_of rows a) (ops_of rows b))
