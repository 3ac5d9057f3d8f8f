-- Chunks that are filled by rows in the order of their keys.
use Rattle.std.proofs.Common.{◌≡◌, ℕ, suc, ◌+◌, ◌-◌, ◌<◌, ◌≤◌, ◌%◌, true, false, cond, not, T, List, [], ◌∷◌, ◌++◌, length, get_or, take, drop, Option, Some, None, refl, sym, ap, subst, ◌∙◌, arith, append_assoc, append-nil}
use Rattle.std.specs.List.{AllByRecursion}
use Rattle.std.specs.List.Sorted.{IsSortedBy}
use Rattle.std.specs.Ordering.{is_lt, is_eq, ordering_reverse}
use Rattle.std.specs.declared.cmp.Ordering.{Ordering}
use Rattle.std.specs.declared.cmp.Ordering.TheVariants.{Less, Equal, Greater}
use Rattle.std.specs.Cmp.{IsStrictWeakOrder}
use Rattle.std.specs.Cmp.Lexicographic.{nat_list_cmp_total}
use Rattle.std.specs.FinMap.{is_sorted, find}
use Rattle.std.specs.FinMap.Entries.{by_order}
use Rattle.std.specs.Vec.{vec_len, vec_capacity}
use Rattle.std.proofs.lemmas.List.{length-append, drop_all}
use Rattle.std.proofs.lemmas.List.Sorted.{sorted_far}
use Rattle.byte_maps.specs.ByteMap.{byte_order}
use Rattle.byte_maps.proofs.Prelude.{same_bytes}
use Rattle.meta_rows.specs.declared.row_op.RowOp.{RowOp}
use Rattle.meta_rows.specs.Prelude.{key_of, AllBelow, entries_after, value_left, with_value, list_size, Entry, joined, NoneEmpty, NoneLonger, AllEmpty, Rises, held_rows, held_value, row_left, rows_of, gap, IsShaped, IsAppended, IsFilling, HoldsKey, NotBelow, Awaits}
use Rattle.meta_rows.specs.declared.chunk_list.ChunkList.{ChunkList}
use Rattle.meta_rows.specs.declared.filling.Filling.{Filling}
use Rattle.meta_rows.proofs.PartLemmas.{less, after_part, after_sorted}
use Rattle.meta_rows.proofs.ListSizes.{list_size-append}
use Rattle.meta_rows.proofs.BatchLemmas.{is_before}
use Rattle.meta_rows.proofs.ChunkLemmas.{cut, before_key, all_before, joined-append, all_front, all_back, all_both}

-- ---- operations in order

rises_from : (op : RowOp) (ops : List RowOp) → ((j : ℕ) → j < length ops → is_before (get_or ops j op) op ≡ false) → AllByRecursion (λ later. is_lt (byte_order (key_of later) (key_of op)) ≡ false) ops
rises_from op [] h = tt
rises_from op (next ∷ ops) h = (h 0 (omega arith), rises_from op ops (λ j l. h (suc j) (omega (arith, l))))

pub rises : (ops : List RowOp) → IsStrictWeakOrder is_before → IsSortedBy is_before ops → Rises ops
rises [] o up = tt
rises (op ∷ ops) o up = (
  rises_from op ops (λ j l. sorted_far is_before o (op ∷ ops) up 0 (suc j) op (omega arith) (omega (arith, l))),
  rises ops o (λ k d low high.
      let on : suc k + 1 ≡ suc (k + 1) = omega arith in
      subst (λ (n : ℕ). is_before (get_or (op ∷ ops) n d) (get_or ops k d) ≡ false) on (up (suc k) d (omega arith) (omega (arith, high)))),
)

-- ---- the last chunk

gap-push : (chunks : List (List Entry)) (chunk : List Entry) → gap (chunks ++ chunk ∷ []) ≡ 96 - length chunk
gap-push [] chunk = refl
gap-push (c ∷ []) chunk = refl
gap-push (c ∷ d ∷ chunks) chunk = gap-push (d ∷ chunks) chunk

pub gap_last : (chunks : List (List Entry)) (last : List Entry) → 0 < length chunks → last ≡ get_or chunks (length chunks - 1) last → gap chunks ≡ 96 - length last
gap_last chunks last some here =
    let n = length chunks - 1 in
    let parted = cut chunks n last (omega (arith, some)) in
    let none : drop (suc n) chunks ≡ [] = drop_all (suc n) chunks (omega (arith, some)) in
    ap gap (parted ∙ ap (λ (l : List (List Entry)). take n chunks ++ get_or chunks n last ∷ l) none) ∙ gap-push (take n chunks) (get_or chunks n last)
    ∙ ap (λ (c : List Entry). 96 - length c) (sym here)

pub last_short : (chunks front : List (List Entry)) (last : List Entry) → chunks ≡ front ++ last ∷ [] → 0 < gap chunks → length last < 128
last_short chunks front last is some = let long = ap gap is ∙ gap-push front last in omega (arith, long, some)

joined-push : (chunks : List (List Entry)) (chunk : List Entry) → joined (chunks ++ chunk ∷ []) ≡ joined chunks ++ chunk
joined-push chunks chunk = joined-append chunks (chunk ∷ []) ∙ ap (λ (l : List Entry). joined chunks ++ l) (append-nil chunk)

-- a row in a chunk of its own
pub begun : (row : Entry) (old new : ChunkList) (chunk full : List Entry) → IsShaped old → gap old.list.items ≡ 0 → old.spare.items ≡ new.spare.items ++ chunk ∷ [] → full ≡ chunk ++ row ∷ []
    → new.list.items ≡ old.list.items ++ full ∷ [] → vec_len new.list ≡ vec_len old.list + 1 → vec_len new.spare + 1 ≡ vec_len old.spare
    → vec_capacity new.list ≡ vec_capacity old.list → vec_capacity new.spare ≡ vec_capacity old.spare → IsAppended row old new
begun row old new chunk full was filled spare holds list many free places spares =
    let all = subst AllEmpty spare was.free in
    let empty : chunk ≡ [] = (all_back (λ (c : List Entry). c ≡ []) new.spare.items (chunk ∷ []) all).0 in
    let one : full ≡ row ∷ [] = holds ∙ ap (λ (c : List Entry). c ++ row ∷ []) empty in
    let is : new.list.items ≡ old.list.items ++ (row ∷ []) ∷ [] = list ∙ ap (λ (c : List Entry). old.list.items ++ c ∷ []) one in
    record {
      rows = ap joined is ∙ joined-push old.list.items (row ∷ []);
      shaped = record {
        some = subst NoneEmpty (sym is) (all_both (λ (c : List Entry). 0 < length c) old.list.items ((row ∷ []) ∷ []) was.some (omega arith, tt));
        most = subst NoneLonger (sym is) (all_both (λ (c : List Entry). length c ≤ 128) old.list.items ((row ∷ []) ∷ []) was.most (omega arith, tt));
        free = all_front (λ (c : List Entry). c ≡ []) new.spare.items (chunk ∷ []) all;
        places = omega (arith, was.places, many, free, places);
        spares = omega (arith, was.spares, many, free, spares);
      };
      room = λ n room. let now = ap gap is ∙ gap-push old.list.items (row ∷ []) in omega (arith, room, now, filled, free);
    }

-- a row in the last chunk
pub added_last : (row : Entry) (old new : ChunkList) (front : List (List Entry)) (last more : List Entry) → IsShaped old → 0 < gap old.list.items → old.list.items ≡ front ++ last ∷ [] → more ≡ last ++ row ∷ []
    → new.list.items ≡ front ++ more ∷ [] → new.spare ≡ old.spare → vec_len new.list ≡ vec_len old.list → vec_capacity new.list ≡ vec_capacity old.list → IsAppended row old new
added_last row old new front last more was some_gap was_is holds list spare many places =
    let is : new.list.items ≡ front ++ (last ++ row ∷ []) ∷ [] = list ∙ ap (λ (c : List Entry). front ++ c ∷ []) holds in
    let before = ap gap was_is ∙ gap-push front last in
    let now = ap gap is ∙ gap-push front (last ++ row ∷ []) in
    let long = length-append last (row ∷ []) in
    record {
      rows = ap joined is ∙ joined-push front (last ++ row ∷ []) ∙ sym (append_assoc (joined front) last (row ∷ []))
          ∙ ap (λ (l : List Entry). l ++ row ∷ []) (sym (ap joined was_is ∙ joined-push front last));
      shaped = record {
        some = subst NoneEmpty (sym is) (all_both (λ (c : List Entry). 0 < length c) front ((last ++ row ∷ []) ∷ [])
            (all_front (λ (c : List Entry). 0 < length c) front (last ∷ []) (subst NoneEmpty was_is was.some)) (omega (arith, long), tt));
        most = subst NoneLonger (sym is) (all_both (λ (c : List Entry). length c ≤ 128) front ((last ++ row ∷ []) ∷ [])
            (all_front (λ (c : List Entry). length c ≤ 128) front (last ∷ []) (subst NoneLonger was_is was.most)) (omega (arith, long, before, some_gap), tt));
        free = subst AllEmpty (sym (ap (λ v. v.items) spare)) was.free;
        places = omega (arith, was.places, many, ap vec_len spare, places);
        spares = omega (arith, was.spares, many, ap vec_len spare, ap vec_capacity spare);
      };
      room = λ n room. omega (arith, room, before, now, long, some_gap, ap vec_len spare);
    }

-- ---- the row that is held back

not_equal : (o : Ordering) → (o ≡ Equal → ⊥) → is_lt (ordering_reverse o) ≡ false → is_lt o ≡ true
not_equal Less differ low = refl
not_equal Equal differ low = absurd (differ refl)
not_equal Greater differ low = absurd cc

pub held_below : (key : List ℕ) (row : Entry) → (byte_order row.0 key ≡ Equal → ⊥) → is_lt (byte_order key row.0) ≡ false → AllBelow key (row ∷ [])
held_below key row differ low = (not_equal (byte_order row.0 key) differ (sym (ap is_lt (nat_list_cmp_total.antisymm key row.0)) ∙ low), tt)

own_order : (o : Ordering) → o ≡ ordering_reverse o → o ≡ Equal
own_order Less e = absurd cc
own_order Equal e = refl
own_order Greater e = absurd cc

-- what an operation leaves of one row, and where there is none
of_one : (op : RowOp) (row : Entry) → row.0 ≡ key_of op → (left : Option (List ℕ)) → with_value (row ∷ []) (key_of op) left ≡ held_rows (row_left (key_of op) left)
of_one op row is None =
    ap (λ o. cond (not (is_eq o)) (row ∷ []) []) (ap (byte_order (key_of op)) is ∙ own_order _ (nat_list_cmp_total.antisymm (key_of op) (key_of op)))
of_one op row is (Some value) =
    ap (λ o. by_order o ((key_of op, value) ∷ row ∷ []) ((row.0, value) ∷ []) (row ∷ (key_of op, value) ∷ [])) (ap (byte_order (key_of op)) is ∙ own_order _ (nat_list_cmp_total.antisymm (key_of op) (key_of op)))
    ∙ ap (λ (k : List ℕ). (k, value) ∷ []) is

of_none : (key : List ℕ) (left : Option (List ℕ)) → with_value [] key left ≡ held_rows (row_left key left)
of_none key None = refl
of_none key (Some value) = refl

found_one : (op : RowOp) (row : Entry) → row.0 ≡ key_of op → find byte_order (key_of op) (row ∷ []) ≡ Some row.1
found_one op row is = ap (λ o. cond (is_eq o) (Some row.1) None) (ap (byte_order (key_of op)) is ∙ own_order _ (nat_list_cmp_total.antisymm (key_of op) (key_of op)))

-- an operation behind the rows in the chunks, on the row that is held back
pub changed_held : (op : RowOp) (done : List Entry) (held : Option Entry) → AllBelow (key_of op) done → HoldsKey (key_of op) held
    → done ++ held_rows (row_left (key_of op) (value_left (held_value held) op)) ≡ entries_after (done ++ held_rows held) op
changed_held op done None below holds = absurd holds
changed_held op done (Some row) below holds = sym (
    ap (λ (l : List Entry). entries_after (done ++ l) op) (sym (append-nil (row ∷ [])))
    ∙ after_part op done (row ∷ []) [] below tt
    ∙ ap (λ (l : List Entry). done ++ l) (append-nil (entries_after (row ∷ []) op)
    ∙ ap (λ h. with_value (row ∷ []) (key_of op) (value_left h op)) (found_one op row holds) ∙ of_one op row holds (value_left (Some row.1) op)))

-- and where no row of its key is held back
pub begun_held : (op : RowOp) (done : List Entry) → AllBelow (key_of op) done
    → done ++ held_rows (row_left (key_of op) (value_left None op)) ≡ entries_after done op
begun_held op done below = sym (
    ap (λ (l : List Entry). entries_after l op) (sym (append-nil done))
    ∙ after_part op done [] [] below tt
    ∙ ap (λ (l : List Entry). done ++ l) (append-nil (entries_after [] op) ∙ of_none (key_of op) (value_left None op)))

-- a later operation's key is not below what is held back then
pub awaits_left : (key : List ℕ) (op : RowOp) (left : Option (List ℕ)) → is_lt (byte_order key (key_of op)) ≡ false → NotBelow key (row_left (key_of op) left)
awaits_left key op None later = tt
awaits_left key op (Some value) later = later

-- ---- all operations

step_sorted : (op : RowOp) (old new : List Entry) → T (is_sorted byte_order old) → new ≡ entries_after old op → T (is_sorted byte_order new)
step_sorted op old new order is = subst (λ (es : List Entry). T (is_sorted byte_order es)) (sym is) (after_sorted old order op)

-- the row that is held back goes behind the others
pub put_behind : (row : Entry) (old new : Filling) → IsFilling old → old.held ≡ Some row → new.held ≡ None → IsAppended row old.all new.all → (more : ℕ) → more ≡ (7 + length row.0 + length row.1) % 18446744073709551616
    → new.size ≡ (old.size + more) % 18446744073709551616 → (joined new.all.list.items ≡ rows_of old) × IsFilling new
put_behind row old new was held none put more bytes size =
    let rows : joined new.all.list.items ≡ rows_of old = put.rows ∙ ap (λ h. joined old.all.list.items ++ held_rows h) (sym held) in
    let all : rows_of new ≡ rows_of old = ap (λ h. joined new.all.list.items ++ held_rows h) none ∙ append-nil (joined new.all.list.items) ∙ rows in
    let sum : list_size (joined new.all.list.items) ≡ list_size (joined old.all.list.items) + (7 + length row.0 + length row.1) =
    ap list_size put.rows ∙ list_size-append (joined old.all.list.items) (row ∷ []) ∙ ap (λ n. list_size (joined old.all.list.items) + n) (plus_none (7 + length row.0 + length row.1)) in (
      rows,
      record {
        order = subst (λ (es : List Entry). T (is_sorted byte_order es)) (sym all) was.order;
        shaped = put.shaped;
        size = size ∙ sums old.size (list_size (joined old.all.list.items)) (7 + length row.0 + length row.1) more (list_size (joined new.all.list.items)) was.size bytes sum;
      },
    )
  where
    plus_none : (n : ℕ) → n + 0 ≡ n
    plus_none n = omega arith

    sums : (a b n m c : ℕ) → a ≡ b % 18446744073709551616 → m ≡ n % 18446744073709551616 → c ≡ b + n → (a + m) % 18446744073709551616 ≡ c % 18446744073709551616
    sums a b n m c p q r = omega (arith, p, q, r)

-- nothing was held back
pub none_behind : (f : Filling) → IsFilling f → f.held ≡ None → joined f.all.list.items ≡ rows_of f
none_behind f was none = sym (ap (λ h. joined f.all.list.items ++ held_rows h) none ∙ append-nil (joined f.all.list.items))

-- ---- what the row that is held back tells

pub has_key : (key : List ℕ) (held : Option Entry) (row : Entry) → held ≡ Some row → byte_order row.0 key ≡ Equal → HoldsKey key held
has_key key held row is e = subst (HoldsKey key) (sym is) (same_bytes row.0 key e)

pub held_under : (key : List ℕ) (held : Option Entry) (row : Entry) → held ≡ Some row → (byte_order row.0 key ≡ Equal → ⊥) → NotBelow key held → AllBelow key (held_rows held)
held_under key held row is differ low = subst (λ h. AllBelow key (held_rows h)) (sym is) (held_below key row differ (subst (NotBelow key) is low))

pub all_under : (key : List ℕ) (f : Filling) → Awaits key f → AllBelow key (held_rows f.held) → AllBelow key (rows_of f)
all_under key f awaits held = all_both (λ (row : Entry). is_lt (byte_order row.0 key) ≡ true) (joined f.all.list.items) (held_rows f.held) awaits.0 held

not_above : (k key : List ℕ) → is_lt (byte_order key k) ≡ false → byte_order k key ≡ Greater → ⊥
not_above k key later above =
    let e : is_lt (byte_order key k) ≡ true = ap is_lt (nat_list_cmp_total.antisymm key k ∙ ap ordering_reverse above) in
    let z : true ≡ false = sym e ∙ later in cc

pub under_later : (k key : List ℕ) (es : List Entry) → AllBelow k es → is_lt (byte_order key k) ≡ false → AllBelow key es
under_later k key [] below later = tt
under_later k key (row ∷ es) below later =
    (ap is_lt (before_key key row.0 k (less _ below.0) (not_above k key later)), under_later k key es below.1 later)

pub still_filling : (op : RowOp) (old mid new : Filling) → IsFilling mid → T (is_sorted byte_order (rows_of old)) → new.all ≡ mid.all → new.size ≡ mid.size → rows_of new ≡ entries_after (rows_of old) op
    → IsFilling new
still_filling op old mid new was order all size rows = record {
  order = step_sorted op (rows_of old) (rows_of new) order rows;
  shaped = subst IsShaped (sym all) was.shaped;
  size = size ∙ was.size ∙ ap (λ g. list_size (joined g.list.items) % 18446744073709551616) (sym all);
}

-- an operation of a key that no row has that was put in
pub comes_behind : (op : RowOp) (old mid new : Filling) → AllBelow (key_of op) (rows_of old) → joined mid.all.list.items ≡ rows_of old → mid.held ≡ None
    → new ≡ record mid { held = row_left (key_of op) (value_left (held_value mid.held) op) } → rows_of new ≡ entries_after (rows_of old) op
comes_behind op old mid new below put none is =
    ap rows_of is
    ∙ ap (λ h. joined mid.all.list.items ++ held_rows (row_left (key_of op) (value_left (held_value h) op))) none
    ∙ begun_held op (joined mid.all.list.items) (subst (AllBelow (key_of op)) (sym put) below)
    ∙ ap (λ (es : List Entry). entries_after es op) put

-- ---- before the first operation

no_front : (a b : List Entry) → a ++ b ≡ [] → a ≡ []
no_front [] b is = refl
no_front (x ∷ a) b is = absurd cc

no_back : (a b : List Entry) → a ++ b ≡ [] → b ≡ []
no_back [] b is = is
no_back (x ∷ a) b is = absurd cc

none_held : (key : List ℕ) (held : Option Entry) → held_rows held ≡ [] → NotBelow key held
none_held key None is = tt
none_held key (Some row) is = absurd cc

awaits_any : (key : List ℕ) (f : Filling) → rows_of f ≡ [] → Awaits key f
awaits_any key f none = (
  subst (AllBelow key) (sym (no_front (joined f.all.list.items) (held_rows f.held) none)) tt,
  none_held key f.held (no_back (joined f.all.list.items) (held_rows f.held) none),
)

pub all_await : (ops : List RowOp) (f : Filling) → rows_of f ≡ [] → AllByRecursion (λ op. Awaits (key_of op) f) ops
all_await [] f none = tt
all_await (op ∷ ops) f none = (awaits_any (key_of op) f none, all_await ops f none)

-- a row behind all others
not_greater : (o : Ordering) → o ≡ Equal → o ≡ Greater → ⊥
not_greater Less p q = absurd cc
not_greater Equal p q = absurd cc
not_greater Greater p q = absurd cc

pub row_under : (row : Entry) (es done : List Entry) → T (is_sorted byte_order (es ++ row ∷ [])) → done ≡ es → (key : List ℕ) → is_lt (byte_order key row.0) ≡ false → AllBelow key done
row_under row es done order is key later =
    let below = all_before row.0 es [] row order (not_greater (byte_order row.0 row.0) (own_order (byte_order row.0 row.0) (nat_list_cmp_total.antisymm row.0 row.0))) in
    subst (AllBelow key) (sym is) (under_later row.0 key es below later)

-- those behind an operation
pub later_await : (op : RowOp) (ops : List RowOp) (old new : Filling) → Rises (op ∷ ops) → AllByRecursion (λ op. Awaits (key_of op) old) ops
    → ((key : List ℕ) → Awaits key old → is_lt (byte_order key (key_of op)) ≡ false → Awaits key new) → AllByRecursion (λ op. Awaits (key_of op) new) ops
later_await op [] old new rise all more = tt
later_await op (next ∷ ops) old new rise all more =
    (more (key_of next) all.0 rise.0.0, later_await op ops old new (rise.0.1, rise.1.1) all.1 more)
