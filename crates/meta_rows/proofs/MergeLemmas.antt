-- Rows and operations, both in the order of their keys, merged.
use Rattle.std.proofs.Common.{◌≡◌, ℕ, suc, ◌+◌, true, false, T, List, [], ◌∷◌, ◌++◌, length, reverse, Some, None, refl, sym, ap, ap₂, subst, ◌∙◌, arith, append_assoc, append-nil}
use Rattle.std.specs.List.{AllByRecursion}
use Rattle.std.specs.Ordering.{is_lt}
use Rattle.std.specs.Cmp.Lexicographic.{nat_list_cmp_total}
use Rattle.std.specs.FinMap as map
use Rattle.std.specs.FinMap.{is_sorted}
use Rattle.std.proofs.lemmas.List.{length-append, nil_from_length, reverse-append}
use Rattle.std.proofs.lemmas.List.Sorted.{ranks_by}
use Rattle.byte_maps.specs.ByteMap.{byte_order}
use Rattle.meta_rows.specs.declared.row_op.RowOp.{RowOp}
use Rattle.meta_rows.specs.declared.merging.Merging.{Merging}
use Rattle.meta_rows.specs.declared.filling.Filling.{Filling}
use Rattle.meta_rows.specs.Prelude.{rows_after, key_of, entries_after, Entry, Rises, rows_of, HasSpace, IsFilling, Awaits, FirstNotBelow, TakesBelow, ops_left, IsMerging, Goes}
use Rattle.meta_rows.proofs.PartLemmas.{less, turned, sorted_front, sorted_back, after_part, after_is, after_sorted}
use Rattle.meta_rows.proofs.ChunkLemmas.{rest_above}
use Rattle.meta_rows.proofs.FillLemmas.{later_await, all_await}

abbrev pub IsInOrder : List Entry → Type 0
IsInOrder es = T (is_sorted byte_order es)

-- ---- the next operation

pub takes_none : (key : List ℕ) (old new : List RowOp) → old ≡ new ++ [] → length old ≡ 0 → TakesBelow key (reverse old) (reverse new) None
takes_none key old new is none =
    let empty : old ≡ [] = nil_from_length old none in
    (ap reverse (sym (is ∙ append-nil new)), subst (λ (l : List RowOp). FirstNotBelow key (reverse l)) (sym empty) tt)

pub takes_some : (key : List ℕ) (old new : List RowOp) (op : RowOp) → old ≡ new ++ op ∷ [] → is_lt (byte_order (key_of op) key) ≡ true → TakesBelow key (reverse old) (reverse new) (Some op)
takes_some key old new op is low = (ap reverse is ∙ reverse-append new (op ∷ []), low)

pub takes_back : (key : List ℕ) (old mid new : List RowOp) (op : RowOp) → old ≡ mid ++ op ∷ [] → new ≡ mid ++ op ∷ [] → is_lt (byte_order (key_of op) key) ≡ false
    → TakesBelow key (reverse old) (reverse new) None
takes_back key old mid new op is back high =
    (ap reverse (back ∙ sym is), subst (FirstNotBelow key) (sym (ap reverse is ∙ reverse-append mid (op ∷ []))) high)

-- none of them is below a key of which the first isn't
no_less : (a b c : List ℕ) → is_lt (byte_order a b) ≡ false → is_lt (byte_order b c) ≡ false → is_lt (byte_order a c) ≡ false
no_less a b c p q = (ranks_by nat_list_cmp_total (λ (k : List ℕ). k)).chain a b c p q

later_not_below : (key first : List ℕ) (ops : List RowOp) → is_lt (byte_order first key) ≡ false → AllByRecursion (λ later. is_lt (byte_order (key_of later) first) ≡ false) ops
    → AllByRecursion (λ op. is_lt (byte_order (key_of op) key) ≡ false) ops
later_not_below key first [] high later = tt
later_not_below key first (op ∷ ops) high later = (no_less (key_of op) first key later.0 high, later_not_below key first ops high later.1)

none_below : (key : List ℕ) (ops : List RowOp) → Rises ops → FirstNotBelow key ops → AllByRecursion (λ op. is_lt (byte_order (key_of op) key) ≡ false) ops
none_below key [] rises first = tt
none_below key (op ∷ ops) rises first = (first, later_not_below key (key_of op) ops first rises.0)

all_await_row : (key : List ℕ) (ops : List RowOp) (f : Filling) → AllByRecursion (λ op. is_lt (byte_order (key_of op) key) ≡ false) ops
    → ((k : List ℕ) → is_lt (byte_order k key) ≡ false → Awaits k f) → AllByRecursion (λ op. Awaits (key_of op) f) ops
all_await_row key [] f high more = tt
all_await_row key (op ∷ ops) f high more = (more (key_of op) high.0, all_await_row key ops f high.1 more)

-- ---- one step after another

pub goes_none : (a : List Entry) (m : Merging) → Goes a a m m
goes_none a m = record { order = λ rest h. h; rows = λ rest h. refl; room = λ n h. h }

pub goes_both : (a b c : List Entry) (x y z : Merging) → Goes a b x y → Goes b c y z → Goes a c x z
goes_both a b c x y z first second = record {
  order = λ rest h. second.order rest (first.order rest h);
  rows = λ rest h. second.rows rest (first.order rest h) ∙ first.rows rest h;
  room = λ n h. second.room n (first.room n h);
}

-- with more rows behind
pub goes_front : (a d : List Entry) (x y : Merging) → Goes a [] x y → Goes (a ++ d) d x y
goes_front a d x y g =
    let same : (rest : List Entry) → rows_of x.filling ++ ((a ++ d) ++ rest) ≡ rows_of x.filling ++ (a ++ (d ++ rest)) =
    λ rest. ap (λ (l : List Entry). rows_of x.filling ++ l) (append_assoc a d rest) in
    record {
      order = λ rest h. g.order (d ++ rest) (subst IsInOrder (same rest) h);
      rows = λ rest h. g.rows (d ++ rest) (subst IsInOrder (same rest) h)
          ∙ ap (λ (l : List Entry). rows_after (map.from_sorted {R = byte_order} l) (ops_left x)) (sym (same rest));
      room = λ n h. let long = length-append a d in
          let after = g.room (n + length d) (omega (arith, h, long)) in omega (arith, after);
    }

-- an operation of a key below the next row's
pub goes_op : (row : Entry) (op : RowOp) (old new : Merging) → ops_left old ≡ op ∷ ops_left new → is_lt (byte_order (key_of op) row.0) ≡ true
    → rows_of new.filling ≡ entries_after (rows_of old.filling) op → ((n : ℕ) → HasSpace (suc n) old.filling.all → HasSpace n new.filling.all) → Goes (row ∷ []) (row ∷ []) old new
goes_op row op old new ops low is room =
    let es = rows_of old.filling in
    let parted : (rest : List Entry) → IsInOrder (es ++ row ∷ rest) → entries_after (es ++ row ∷ rest) op ≡ rows_of new.filling ++ row ∷ rest =
    λ rest h. after_part op [] es (row ∷ rest) tt (rest_above (key_of op) (row ∷ []) rest (sorted_back es (row ∷ rest) h) (turned (key_of op) row.0 (less _ low)))
    ∙ ap (λ (l : List Entry). l ++ row ∷ rest) (sym is) in
    record {
      order = λ rest h. subst IsInOrder (parted rest h) (after_sorted (es ++ row ∷ rest) h op);
      rows = λ rest h. ap (λ (l : List Entry). rows_after (map.from_sorted {R = byte_order} l) (ops_left new)) (sym (parted rest h))
          ∙ ap (λ m. rows_after m (ops_left new)) (after_is (es ++ row ∷ rest) h op)
          ∙ ap (λ (l : List RowOp). rows_after (map.from_sorted {R = byte_order} (es ++ row ∷ rest)) l) (sym ops);
      room = λ n h. let long = ap length ops in room (n + (1 + length (ops_left new))) (omega (arith, h, long));
    }

pub merging_op : (op : RowOp) (old new : Merging) → IsMerging old → ops_left old ≡ op ∷ ops_left new → IsFilling new.filling
    → ((key : List ℕ) → Awaits key old.filling → is_lt (byte_order key (key_of op)) ≡ false → Awaits key new.filling) → IsMerging new
merging_op op old new was ops state more =
    let rises = subst Rises ops was.rises in
    let awaits = subst (λ l. AllByRecursion (λ op. Awaits (key_of op) old.filling) l) ops was.awaits in
    record { state = state; rises = rises.1; awaits = later_await op (ops_left new) old.filling new.filling rises awaits.1 more }

pub first_awaits : (op : RowOp) (ops : List RowOp) (m : Merging) → IsMerging m → ops_left m ≡ op ∷ ops → Awaits (key_of op) m.filling
first_awaits op ops m was is = (subst (λ l. AllByRecursion (λ op. Awaits (key_of op) m.filling) l) is was.awaits).0

-- the row
pub goes_row : (row : Entry) (old new : Merging) → ops_left new ≡ ops_left old → rows_of new.filling ≡ rows_of old.filling ++ row ∷ []
    → ((n : ℕ) → HasSpace (suc n) old.filling.all → HasSpace n new.filling.all) → Goes (row ∷ []) [] old new
goes_row row old new ops is room =
    let same : (rest : List Entry) → rows_of new.filling ++ rest ≡ rows_of old.filling ++ row ∷ rest =
    λ rest. ap (λ (l : List Entry). l ++ rest) is ∙ append_assoc (rows_of old.filling) (row ∷ []) rest in
    record {
      order = λ rest h. subst IsInOrder (sym (same rest)) h;
      rows = λ rest h. ap₂ (λ (l : List Entry) (o : List RowOp). rows_after (map.from_sorted {R = byte_order} l) o) (same rest) ops;
      room = λ n h. let long = ap length ops in
          let after = room (n + length (ops_left old)) (omega (arith, h)) in omega (arith, after, long);
    }

pub merging_row : (row : Entry) (old new : Merging) → IsMerging old → ops_left new ≡ ops_left old → FirstNotBelow row.0 (ops_left old) → IsFilling new.filling
    → ((key : List ℕ) → is_lt (byte_order key row.0) ≡ false → Awaits key new.filling) → IsMerging new
merging_row row old new was ops first state more = record {
  state = state;
  rises = subst Rises (sym ops) was.rises;
  awaits = subst (λ l. AllByRecursion (λ op. Awaits (key_of op) new.filling) l) (sym ops)
      (all_await_row row.0 (ops_left old) new.filling (none_below row.0 (ops_left old) was.rises first) more);
}

-- the part that comes next is in order behind what was merged
pub part_in_order : (es a b : List Entry) → IsInOrder (es ++ ((a ++ b) ++ [])) → IsInOrder (es ++ a)
part_in_order es a b h =
    sorted_front (es ++ a) b (subst IsInOrder (ap (λ (l : List Entry). es ++ l) (append-nil (a ++ b)) ∙ sym (append_assoc es a b)) h)

pub with_none : (es a : List Entry) → IsInOrder (es ++ a) → IsInOrder (es ++ (a ++ []))
with_none es a h = subst IsInOrder (ap (λ (l : List Entry). es ++ l) (sym (append-nil a))) h

-- before the first
pub merging_new : (m : Merging) (ops : List RowOp) → IsFilling m.filling → rows_of m.filling ≡ [] → ops_left m ≡ ops → Rises ops → IsMerging m
merging_new m ops state none is rises = record { state = state; rises = subst Rises (sym is) rises; awaits = all_await (ops_left m) m.filling none }
