-- Between two tables of rows there is one difference at most, and it names the keys under which they have not the same.
use Rattle.std.proofs.Common.{◌≡◌, ◌≢◌, ℕ, List, [], ◌∷◌, Option, Some, None, is_some, refl, sym, ap, subst, ◌∙◌}
use Rattle.std.specs.List.{AllByRecursion}
use Rattle.std.specs.Ordering.{ordering_reverse}
use Rattle.std.specs.declared.cmp.Ordering.TheVariants.{Less, Equal, Greater}
use Rattle.std.specs.Cmp.{tied_itself}
use Rattle.std.specs.Cmp.Lexicographic.{nat_list_cmp_total}
use Rattle.std.specs.FinMap.{get}
use Rattle.byte_maps.specs.ByteMap.{byte_order}
use Rattle.byte_maps.proofs.Prelude.{same_bytes}
use Rattle.meta_rows.specs.Prelude.{Rows, row_after, rows_after, key_of, LeaveAlone}
use Rattle.meta_rows.specs.declared.row_op.RowOp.{RowOp}
use Rattle.meta_rows.specs.declared.row_op.RowOp.TheVariants.{Set, Drop, Flip}
use Rattle.meta_rows.proofs.RowLemmas.{get-insert_same, get-remove_same, get-row_after_other, get-rows_after_other}
use Rattle.plan_drafts.specs.Prelude.{Changes, IsDifference, KeysAscend}
use Rattle.object_rows.proofs.GoodPages.{all_map}

-- ---- one operation

-- what stands under an operation's key after it
abbrev outcome : RowOp → Option (List ℕ)
outcome (Set key value) = Some value
outcome (Drop key) = None
outcome (Flip key mask) = None

differs : (rows : Rows) (op : RowOp) → Changes rows op → get rows (key_of op) ≢ outcome op
differs rows (Set key value) changes is = changes is
differs rows (Drop key) changes is = let t = sym changes ∙ ap is_some is in cc
differs rows (Flip key mask) changes is = changes

made : (rows : Rows) (op : RowOp) → Changes rows op → get (row_after rows op) (key_of op) ≡ outcome op
made rows (Set key value) changes = get-insert_same rows key value
made rows (Drop key) changes = get-remove_same rows key
made rows (Flip key mask) changes = absurd changes

-- it changes rows that have the same under its key
pub still_changes : (rows other : Rows) (op : RowOp) → get other (key_of op) ≡ get rows (key_of op) → Changes rows op → Changes other op
still_changes rows other (Set key value) same changes = λ is. changes (sym same ∙ is)
still_changes rows other (Drop key) same changes = ap is_some same ∙ changes
still_changes rows other (Flip key mask) same changes = changes

-- two that change rows, under one key to one outcome, are one
one_op : (rows : Rows) (x y : RowOp) → Changes rows x → Changes rows y → key_of x ≡ key_of y → outcome x ≡ outcome y → x ≡ y
one_op rows (Set key value) (Set other new) a b keys made = let values : value ≡ new = cc in λ i. Set (keys i) (values i)
one_op rows (Set key value) (Drop other) a b keys made = absurd cc
one_op rows (Drop key) (Set other new) a b keys made = absurd cc
one_op rows (Drop key) (Drop other) a b keys made = ap Drop keys
one_op rows (Flip key mask) y a b keys made = absurd a
one_op rows x (Flip key mask) a b keys made = absurd b

-- ---- operations in order

pub less_apart : (a b : List ℕ) → byte_order a b ≡ Less → a ≢ b
less_apart a b less same =
    let tied : byte_order a b ≡ Equal = ap (byte_order a) (sym same) ∙ tied_itself nat_list_cmp_total a in
    let t = sym less ∙ tied in cc

module _ (key : List ℕ) where
  -- every key is behind this one
  abbrev AreBehind : List RowOp → Type 0
  AreBehind ops = AllByRecursion (λ later. byte_order key (key_of later) ≡ Less) ops

  behind_alone : (ops : List RowOp) → AreBehind ops → LeaveAlone ops key
  behind_alone = all_map (λ later. byte_order key (key_of later) ≡ Less) (λ later. key_of later ≢ key)
      (λ later less same. less_apart key (key_of later) less (sym same))

  all_behind : (op : RowOp) (ops : List RowOp) → byte_order key (key_of op) ≡ Less → KeysAscend (op ∷ ops) → AreBehind (op ∷ ops)
  all_behind op ops less order = (
    less,
    all_map (λ later. byte_order (key_of op) (key_of later) ≡ Less) (λ later. byte_order key (key_of later) ≡ Less)
        (λ later next. nat_list_cmp_total.trans key (key_of op) (key_of later) less next) ops order.0,
  )

module _ (rows : Rows) where
  -- the first operation decides what is under its key
  first_made : (op : RowOp) (ops : List RowOp) → KeysAscend (op ∷ ops) → Changes rows op → get (rows_after rows (op ∷ ops)) (key_of op) ≡ outcome op
  first_made op ops order changes =
      get-rows_after_other (row_after rows op) ops (key_of op) (behind_alone (key_of op) ops order.0) ∙ made rows op changes

  -- the others change the rows after it
  rest_changes : (op : RowOp) (ops : List RowOp) → AreBehind (key_of op) ops → AllByRecursion (Changes rows) ops
      → AllByRecursion (Changes (row_after rows op)) ops
  rest_changes op [] behind changes = tt
  rest_changes op (x ∷ xs) behind changes = (
    still_changes rows (row_after rows op) x (get-row_after_other rows op (key_of x) (less_apart (key_of op) (key_of x) behind.0)) changes.0,
    rest_changes op xs behind.1 changes.1,
  )

  -- under a key before all others nothing changes, so no operation that changes something has it
  not_before : (x op : RowOp) (xs ops : List RowOp) (after : Rows) → KeysAscend (x ∷ xs) → KeysAscend (op ∷ ops) → Changes rows x
      → rows_after rows (x ∷ xs) ≡ after → rows_after rows (op ∷ ops) ≡ after → byte_order (key_of x) (key_of op) ≢ Less
  not_before x op xs ops after order other changes is is_other less = differs rows x changes
      (sym (get-rows_after_other rows (op ∷ ops) (key_of x) (behind_alone (key_of x) (op ∷ ops) (all_behind (key_of x) op ops less other)))
      ∙ ap (λ r. get r (key_of x)) (is_other ∙ sym is) ∙ first_made x xs order changes)

  -- none that changes something, where nothing changes
  none_changes : (x : RowOp) (xs : List RowOp) → KeysAscend (x ∷ xs) → Changes rows x → rows_after rows (x ∷ xs) ≢ rows
  none_changes x xs order changes is = differs rows x changes (sym (ap (λ r. get r (key_of x)) is) ∙ first_made x xs order changes)

-- ---- one list

one_list : (before after : Rows) (xs ys : List RowOp) → IsDifference before after xs → IsDifference before after ys → xs ≡ ys
one_list before after [] [] p q = refl
one_list before after [] (y ∷ ys) p q = absurd (none_changes before y ys q.in_order q.changes.0 (q.makes ∙ sym p.makes))
one_list before after (x ∷ xs) [] p q = absurd (none_changes before x xs p.in_order p.changes.0 (p.makes ∙ sym q.makes))
one_list before after (x ∷ xs) (y ∷ ys) p q = elim (byte_order (key_of x) (key_of y)) as
    (λ r. byte_order (key_of x) (key_of y) ≡ r → x ∷ xs ≡ y ∷ ys) [
      | Less ↦ λ less. absurd (not_before before x y xs ys after p.in_order q.in_order p.changes.0 p.makes q.makes less)
      | Equal ↦ λ tied. same_first (λ rows. one_list rows after xs ys) (same_bytes (key_of x) (key_of y) tied)
      | Greater ↦ λ more. absurd (not_before before y x ys xs after q.in_order p.in_order q.changes.0 q.makes p.makes
          (nat_list_cmp_total.antisymm (key_of y) (key_of x) ∙ ap ordering_reverse more))
    ] refl
  where
    same_first : ((rows : Rows) → IsDifference rows after xs → IsDifference rows after ys → xs ≡ ys) → key_of x ≡ key_of y → x ∷ xs ≡ y ∷ ys
    same_first rest_same keys =
        let outcomes : outcome x ≡ outcome y =
        sym (first_made before x xs p.in_order p.changes.0)
        ∙ ap (λ r. get r (key_of x)) (p.makes ∙ sym q.makes)
        ∙ ap (get (rows_after before (y ∷ ys))) keys
        ∙ first_made before y ys q.in_order q.changes.0 in
        let one : x ≡ y = one_op before x y p.changes.0 q.changes.0 keys outcomes in
        let rest : xs ≡ ys = rest_same (row_after before x)
        (record { in_order = p.in_order.1; changes = rest_changes before x xs p.in_order.0 p.changes.1; makes = p.makes })
        (record {
          in_order = q.in_order.1;
          changes = rest_changes before x ys (subst (λ key. AreBehind key ys) (sym keys) q.in_order.0) q.changes.1;
          makes = ap (λ op. rows_after (row_after before op) ys) one ∙ q.makes;
        }) in
        λ i. one i ∷ rest i

pub one_difference : (before after : Rows) (xs ys : List RowOp) → IsDifference before after xs → IsDifference before after ys → xs ≡ ys
one_difference = one_list

pub no_difference : (rows : Rows) (ops : List RowOp) → IsDifference rows rows ops → ops ≡ []
no_difference rows ops is = one_list rows rows ops [] is (record { in_order = tt; changes = tt; makes = refl })

-- ---- what is said after

-- what an operation sets stands there after it
abbrev pub SaysAfter : Rows → RowOp → Type 0
SaysAfter after (Set key value) = get after key ≡ Some value
SaysAfter after op = Unit {0}

pub said_after : (rows : Rows) (ops : List RowOp) → KeysAscend ops → AllByRecursion (SaysAfter (rows_after rows ops)) ops
said_after rows [] order = tt
said_after rows (op ∷ ops) order = (
  first op (λ key is. get-rows_after_other (row_after rows op) ops key (behind_alone key ops
      (subst (λ k. AreBehind k ops) is order.0))),
  said_after (row_after rows op) ops order.1,
)
  where
    first : (op : RowOp) → ((key : List ℕ) → key_of op ≡ key → get (rows_after (row_after rows op) ops) key ≡ get (row_after rows op) key)
        → SaysAfter (rows_after rows (op ∷ ops)) op
    first (Set key value) same = same key refl ∙ get-insert_same rows key value
    first (Drop key) same = tt
    first (Flip key mask) same = tt

-- ---- keys

-- a key with the same in both is named by no operation
alone_of : (before : Rows) (ops : List RowOp) (key : List ℕ) → KeysAscend ops → AllByRecursion (Changes before) ops
    → get (rows_after before ops) key ≡ get before key → LeaveAlone ops key
alone_of before [] key order changes same = tt
alone_of before (op ∷ ops) key order changes same = (
  apart,
  alone_of (row_after before op) ops key order.1 (rest_changes before op ops order.0 changes.1)
      (same ∙ sym (get-row_after_other before op key apart)),
)
  where
    apart : key_of op ≢ key
    apart is = differs before op changes.0
        (ap (get before) is ∙ sym same ∙ ap (get (rows_after before (op ∷ ops))) (sym is) ∙ first_made before op ops order changes.0)

pub same_unnamed : (before after : Rows) (ops : List RowOp) (key : List ℕ) → IsDifference before after ops → get after key ≡ get before key
    → LeaveAlone ops key
same_unnamed before after ops key is same = alone_of before ops key is.in_order is.changes (ap (λ r. get r key) is.makes ∙ same)

pub unnamed_same : (before after : Rows) (ops : List RowOp) (key : List ℕ) → IsDifference before after ops → LeaveAlone ops key
    → get after key ≡ get before key
unnamed_same before after ops key is alone = sym (ap (λ r. get r key) is.makes) ∙ get-rows_after_other before ops key alone
