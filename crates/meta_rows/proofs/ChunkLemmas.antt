-- Rows in chunks: which chunk a key belongs into, and what a change of one chunk makes of all.
use Rattle.std.specs.Prelude.{Ok, Err}
use Rattle.std.proofs.Common.{◌≡◌, ◌⊎◌, ℕ, zero, suc, ◌+◌, ◌-◌, ◌*◌, ◌<◌, ◌≤◌, ◌%◌, T, List, [], ◌∷◌, ◌++◌, length, get_or, set, take, drop, refl, sym, ap, ap₂, subst, ◌∙◌, arith, append_assoc, append-nil, inl, inr}
use Rattle.std.specs.List.{AllByRecursion, HoldsAt, remove}
use Rattle.std.specs.List.Sorted.{IsNonDecreasingBy, IsPartitionPoint}
use Rattle.std.specs.Ordering.{is_lt, ordering_index, ordering_reverse}
use Rattle.std.specs.declared.cmp.Ordering.{Ordering}
use Rattle.std.specs.declared.cmp.Ordering.TheVariants.{Less, Equal, Greater}
use Rattle.std.specs.Cmp.Lexicographic.{nat_list_cmp_total}
use Rattle.std.specs.FinMap.{is_sorted, find}
use Rattle.std.specs.FinMap.Entries.{below_all}
use Rattle.std.specs.Vec.{vec_len, vec_capacity}
use Rattle.std.proofs.lemmas.List.{length-append, length-take-le, take_at, get_or_at, get_or-drop, set_at, drop_all, get_or_read}
use Rattle.byte_maps.specs.ByteMap.{byte_order}
use Rattle.byte_maps.proofs.Prelude.{same_bytes, both_first, both_second, below_more, comparisons_rise}
use Rattle.meta_rows.specs.Prelude.{key_of, AllBelow, entries_after, list_size, GrowsBy, Entry, joined, first_order, IsPastLast, beyond_parts, crowd, NoneEmpty, NoneLonger, AllEmpty, BelongsIn, IsChunked, HasSpares, IsMadeReady, IsSplit, IsRearranged, IsKeyPlace}
use Rattle.meta_rows.specs.declared.chunk_list.ChunkList.{ChunkList}
use Rattle.meta_rows.proofs.PartLemmas.{both, less, holds, so, turned, sorted_front, sorted_back, find_part, after_part, after_sorted, after_long}
use Rattle.meta_rows.proofs.ListSizes.{part_grows}
use Rattle.meta_rows.specs.declared.row_op.RowOp.{RowOp}

-- ---- lists

module _ {X : Type 0} where
  pub cut : (xs : List X) (i : ℕ) (d : X) → i < length xs → xs ≡ take i xs ++ get_or xs i d ∷ drop (suc i) xs
  cut [] i d l = absurd (omega arith)
  cut (x ∷ xs) zero d l = refl
  cut (x ∷ xs) (suc i) d l = ap (λ (t : List X). x ∷ t) (cut xs i d (omega arith))

  pub drop_past : (front : List X) (x : X) (back : List X) (n : ℕ) → length front ≡ n → drop (suc n) (front ++ x ∷ back) ≡ back
  drop_past [] x back zero is = refl
  drop_past [] x back (suc n) is = absurd (omega (arith, is))
  drop_past (y ∷ front) x back zero is = absurd (omega (arith, is))
  drop_past (y ∷ front) x back (suc n) is = drop_past front x back n (omega (arith, is))

  cut_two : (xs : List X) (i : ℕ) (d : X) → suc i < length xs → xs ≡ take i xs ++ get_or xs i d ∷ get_or xs (suc i) d ∷ drop (suc (suc i)) xs
  cut_two [] i d l = absurd (omega arith)
  cut_two (x ∷ []) i d l = absurd (omega arith)
  cut_two (x ∷ y ∷ xs) zero d l = refl
  cut_two (x ∷ y ∷ xs) (suc i) d l = ap (λ (t : List X). x ∷ t) (cut_two (y ∷ xs) i d (omega arith))

  module _ (P : X → Type 0) where
    pub all_front : (a b : List X) → AllByRecursion P (a ++ b) → AllByRecursion P a
    all_front [] b h = tt
    all_front (x ∷ a) b h = (h.0, all_front a b h.1)

    pub all_back : (a b : List X) → AllByRecursion P (a ++ b) → AllByRecursion P b
    all_back [] b h = h
    all_back (x ∷ a) b h = all_back a b h.1

    pub all_both : (a b : List X) → AllByRecursion P a → AllByRecursion P b → AllByRecursion P (a ++ b)
    all_both [] b h g = g
    all_both (x ∷ a) b h g = (h.0, all_both a b h.1 g)

    pub all_drop : (n : ℕ) (xs : List X) → AllByRecursion P xs → AllByRecursion P (drop n xs)
    all_drop zero xs h = h
    all_drop (suc n) [] h = tt
    all_drop (suc n) (x ∷ xs) h = all_drop n xs h.1

    pub all_take : (n : ℕ) (xs : List X) → AllByRecursion P xs → AllByRecursion P (take n xs)
    all_take zero xs h = tt
    all_take (suc n) [] h = tt
    all_take (suc n) (x ∷ xs) h = (h.0, all_take n xs h.1)

pub joined-append : (a b : List (List Entry)) → joined (a ++ b) ≡ joined a ++ joined b
joined-append [] b = refl
joined-append (c ∷ a) b = ap (λ (l : List Entry). c ++ l) (joined-append a b) ∙ sym (append_assoc c (joined a) (joined b))

pub joined_more : (chunks : List (List Entry)) (i : ℕ) (d : List Entry) → i < length chunks → length (joined (take (suc i) chunks)) ≡ length (joined (take i chunks)) + length (get_or chunks i d)
joined_more [] i d l = absurd (omega arith)
joined_more (c ∷ chunks) zero d l = let g : length (c ++ []) ≡ 0 + length c = omega (arith, length-append c []) in g
joined_more (c ∷ chunks) (suc i) d l =
    let rest = joined_more chunks i d (omega arith) in
    let g : length (c ++ joined (take (suc i) chunks)) ≡ length (c ++ joined (take i chunks)) + length (get_or chunks i d) =
    omega (arith, rest, length-append c (joined (take (suc i) chunks)), length-append c (joined (take i chunks))) in g

-- the rows before a chunk, its own and those behind it
pub parts : (chunks front : List (List Entry)) (chunk : List Entry) (back : List (List Entry)) → chunks ≡ front ++ chunk ∷ back
    → joined chunks ≡ joined front ++ (chunk ++ joined back)
parts chunks front chunk back is = ap joined is ∙ joined-append front (chunk ∷ back)

-- ---- rows before a row that isn't above, and behind one that is

module _ (key : List ℕ) where
  pub before_key : (x e : List ℕ) → byte_order x e ≡ Less → (byte_order e key ≡ Greater → ⊥) → byte_order x key ≡ Less
  before_key x e p low =
      elim (byte_order e key) as (λ o. byte_order e key ≡ o → byte_order x key ≡ Less) [
        | Less ↦ λ q. nat_list_cmp_total.trans x e key p q
        | Equal ↦ λ q. subst (λ (k : List ℕ). byte_order x k ≡ Less) (same_bytes e key q) p
        | Greater ↦ λ q. absurd (low q)
      ] refl

  in_below : (x : List ℕ) (a b : List Entry) (e : Entry) → T (below_all byte_order x (a ++ e ∷ b)) → byte_order x e.0 ≡ Less
  in_below x [] b e h = less _ (holds _ (both_first _ _ h))
  in_below x (y ∷ a) b e h = in_below x a b e (both_second _ _ h)

  pub all_before : (a b : List Entry) (e : Entry) → T (is_sorted byte_order (a ++ e ∷ b)) → (byte_order e.0 key ≡ Greater → ⊥) → AllBelow key a
  all_before [] b e h low = tt
  all_before (x ∷ a) b e h low = (ap is_lt (before_key x.0 e.0 (in_below x.0 a b e (both_first _ _ h)) low), all_before a b e (both_second _ _ h) low)

  back_below : (a b : List Entry) → T (below_all byte_order key (a ++ b)) → T (below_all byte_order key b)
  back_below [] b h = h
  back_below (x ∷ a) b h = back_below a b (both_second _ _ h)

  front_below : (a b : List Entry) → T (below_all byte_order key (a ++ b)) → T (below_all byte_order key a)
  front_below [] b h = tt
  front_below (x ∷ a) b h = both _ _ (both_first _ _ h) (front_below a b (both_second _ _ h))

  -- rows in order of which a first one is above
  pub rest_above : (chunk rest : List Entry) → T (is_sorted byte_order (chunk ++ rest)) → first_order key chunk ≡ Greater → T (below_all byte_order key (chunk ++ rest))
  rest_above [] rest h is = absurd cc
  rest_above (e ∷ chunk) rest h is =
      let above = nat_list_cmp_total.antisymm key e.0 ∙ ap ordering_reverse is in
      both _ _ (so _ (ap is_lt above)) (below_more key e.0 (chunk ++ rest) above (both_first _ _ h))

  -- and of which it is the key
  behind_equal : (chunk rest : List Entry) → T (is_sorted byte_order (chunk ++ rest)) → first_order key chunk ≡ Equal → T (below_all byte_order key rest)
  behind_equal [] rest h is = absurd cc
  behind_equal (e ∷ chunk) rest h is =
      back_below chunk rest (subst (λ (k : List ℕ). T (below_all byte_order k (chunk ++ rest))) (same_bytes e.0 key is) (both_first _ _ h))

  -- of rows in order one isn't above, so the first one isn't
  below_place : (x : List ℕ) (es : List Entry) (i : ℕ) (d : Entry) → T (below_all byte_order x es) → i < length es → byte_order x (get_or es i d).0 ≡ Less
  below_place x [] i d h l = absurd (omega arith)
  below_place x (e ∷ es) zero d h l = less _ (holds _ (both_first _ _ h))
  below_place x (e ∷ es) (suc i) d h l = below_place x es i d (both_second _ _ h) (omega arith)

  not_above : (chunk : List Entry) (i : ℕ) → T (is_sorted byte_order chunk) → i < length chunk → (byte_order (get_or chunk i ([], [])).0 key ≡ Greater → ⊥) → first_order key chunk ≡ Greater → ⊥
  not_above [] i h l low is = absurd (omega arith)
  not_above (e ∷ chunk) zero h l low is = low is
  not_above (e ∷ chunk) (suc i) h l low is =
      let above = nat_list_cmp_total.antisymm key e.0 ∙ ap ordering_reverse is in
      let later = below_more key e.0 chunk above (both_first _ _ h) in
      low (turned key (get_or chunk i ([], [])).0 (below_place key chunk i ([], []) later (omega arith)))

  -- one isn't below, so those behind are above
  behind_row : (chunk rest : List Entry) (i : ℕ) → T (is_sorted byte_order (chunk ++ rest)) → i < length chunk → (byte_order (get_or chunk i ([], [])).0 key ≡ Less → ⊥) → T (below_all byte_order key rest)
  behind_row [] rest i h l high = absurd (omega arith)
  behind_row (e ∷ chunk) rest (suc i) h l high = behind_row chunk rest i (both_second _ _ h) (omega arith) high
  behind_row (e ∷ chunk) rest zero h l high =
      elim (byte_order e.0 key) as (λ o. byte_order e.0 key ≡ o → T (below_all byte_order key rest)) [
        | Less ↦ λ q. absurd (high q)
        | Equal ↦ λ q. back_below chunk rest (subst (λ (k : List ℕ). T (below_all byte_order k (chunk ++ rest))) (same_bytes e.0 key q) (both_first _ _ h))
        | Greater ↦ λ q. back_below chunk rest (below_more key e.0 (chunk ++ rest) (nat_list_cmp_total.antisymm key e.0 ∙ ap ordering_reverse q) (both_first _ _ h))
      ] refl

  chunks_above : (chunks : List (List Entry)) → T (is_sorted byte_order (joined chunks)) → (0 < length chunks → first_order key (get_or chunks 0 []) ≡ Greater)
      → T (below_all byte_order key (joined chunks))
  chunks_above [] h g = tt
  chunks_above (chunk ∷ chunks) h g = rest_above chunk (joined chunks) h (g (omega arith))

  pub chunks_below : (front : List (List Entry)) (chunk rest : List Entry) → 0 < length chunk → T (is_sorted byte_order (joined front ++ (chunk ++ rest)))
      → (0 < length front → first_order key chunk ≡ Greater → ⊥) → AllBelow key (joined front)
  chunks_below [] chunk rest some h low = tt
  chunks_below (f ∷ front) [] rest some h low = absurd (omega (arith, some))
  chunks_below (f ∷ front) (e ∷ chunk) rest some h low = all_before (joined (f ∷ front)) (chunk ++ rest) e h (low (omega arith))

-- ---- the search among the first keys

at_most_two : (r : Ordering) → ordering_index r ≤ 2
at_most_two Less = omega arith
at_most_two Equal = omega arith
at_most_two Greater = omega arith

no_higher : (x y k : List ℕ) → byte_order x y ≡ Less → ordering_index (byte_order x k) ≤ ordering_index (byte_order y k)
no_higher x y k p =
    elim (byte_order y k) as (λ r. byte_order y k ≡ r → ordering_index (byte_order x k) ≤ ordering_index r) [
      | Less ↦ λ q. omega (arith, ap ordering_index (nat_list_cmp_total.trans x y k p q))
      | Equal ↦ λ q. omega (arith, ap ordering_index (subst (λ (z : List ℕ). byte_order x z ≡ Less) (same_bytes y k q) p))
      | Greater ↦ λ q. at_most_two (byte_order x k)
    ] refl

zero_is_less : (o : Ordering) → ordering_index o ≤ 0 → o ≡ Less
zero_is_less Less h = refl
zero_is_less Equal h = absurd (omega (arith, h))
zero_is_less Greater h = absurd (omega (arith, h))

two_is_greater : (o : Ordering) → 2 ≤ ordering_index o → o ≡ Greater
two_is_greater Less h = absurd (omega (arith, h))
two_is_greater Equal h = absurd (omega (arith, h))
two_is_greater Greater h = refl

less_not : (o : Ordering) → o ≡ Less → o ≡ Greater → ⊥
less_not Less p q = absurd cc
less_not Equal p q = absurd cc
less_not Greater p q = absurd cc

equal_not : (o : Ordering) → o ≡ Equal → (o ≡ Less → ⊥) × (o ≡ Greater → ⊥)
equal_not Less p = absurd cc
equal_not Equal p = (λ q. absurd cc, λ q. absurd cc)
equal_not Greater p = absurd cc

greater_not : (o : Ordering) → o ≡ Greater → o ≡ Less → ⊥
greater_not Less p q = absurd cc
greater_not Equal p q = absurd cc
greater_not Greater p q = absurd cc

-- the place behind a row that is below, and before the next one, which is above if there is one
pub between_two : (key : List ℕ) (es : List Entry) (before : ℕ) → before < length es → ((d : Entry) → byte_order (get_or es before d).0 key ≡ Less)
    → (before + 1 < length es → (d : Entry) → byte_order (get_or es (before + 1) d).0 key ≡ Greater) → IsKeyPlace key es (Err (before + 1))
between_two key es before l low high = (
  omega (arith, l),
  λ up. (
    λ k d a b. let le = up k before d (omega arith) l in zero_is_less (byte_order (get_or es k d).0 key) (omega (arith, le, ap ordering_index (low d))),
    λ k d a b. let le = up (before + 1) k d a b in
        two_is_greater (byte_order (get_or es k d).0 key) (omega (arith, le, ap ordering_index (high (omega (arith, a, b)) d))),
  ),
)

-- and the one among no rows
pub place_of_none : (key : List ℕ) (es : List Entry) → es ≡ [] → IsKeyPlace key es (Err 0)
place_of_none key es none = (omega arith, λ up. (λ k d a b. absurd (omega (arith, b)), λ k d a b. absurd (omega (arith, b, ap length none))))

-- how the row at a place compares
pub row_order : (key : List ℕ) (es : List Entry) (i : ℕ) (row : Entry) (o : Ordering) → i < length es → row ≡ get_or es i row → byte_order row.0 key ≡ o
    → (d : Entry) → byte_order (get_or es i d).0 key ≡ o
row_order key es i row o l is e d = ap (λ (r : Entry). byte_order r.0 key) (sym (get_or_read es i row l is d)) ∙ e

-- a key above the last one comes behind all
pub past_all : (key : List ℕ) (es : List Entry) → IsPastLast key es → IsNonDecreasingBy (λ e. ordering_index (byte_order e.0 key)) es
    → IsPartitionPoint (λ e. byte_order e.0 key ≡ Less) (λ e. byte_order e.0 key ≡ Greater) es (length es)
past_all key es past up = (
  λ k d a b.
      let le = up k (length es - 1) d (omega arith) (omega (arith, past.0)) in
      let last = ap ordering_index (past.1 d) in
      zero_is_less (byte_order (get_or es k d).0 key) (omega (arith, le, last)),
  λ k d a b. absurd (omega arith),
)

module _ (key : List ℕ) where
  later : (x : List ℕ) (chunks : List (List Entry)) (j : ℕ) (d : List Entry) → NoneEmpty chunks → T (below_all byte_order x (joined chunks)) → j < length chunks
      → ordering_index (byte_order x key) ≤ ordering_index (first_order key (get_or chunks j d))
  later x [] j d some h l = absurd (omega arith)
  later x ([] ∷ chunks) j d some h l = absurd (omega (arith, some.0))
  later x ((e ∷ chunk) ∷ chunks) zero d some h l = no_higher x e.0 key (less _ (holds _ (both_first _ _ h)))
  later x ((e ∷ chunk) ∷ chunks) (suc j) d some h l = later x chunks j d some.1 (back_below x (e ∷ chunk) (joined chunks) h) (omega arith)

  first_later : (chunk : List Entry) (chunks : List (List Entry)) (j : ℕ) (d : List Entry) → 0 < length chunk → NoneEmpty chunks → T (is_sorted byte_order (chunk ++ joined chunks)) → j < length chunks
      → ordering_index (first_order key chunk) ≤ ordering_index (first_order key (get_or chunks j d))
  first_later [] chunks j d some more h l = absurd (omega (arith, some))
  first_later (e ∷ chunk) chunks j d some more h l = later e.0 chunks j d more (back_below e.0 chunk (joined chunks) (both_first _ _ h)) l

  pub first_keys_rise : (chunks : List (List Entry)) → NoneEmpty chunks → T (is_sorted byte_order (joined chunks)) → IsNonDecreasingBy (λ chunk. ordering_index (first_order key chunk)) chunks
  first_keys_rise [] some h i j d le l = absurd (omega arith)
  first_keys_rise (chunk ∷ chunks) some h zero zero d le l = omega arith
  first_keys_rise (chunk ∷ chunks) some h zero (suc j) d le l = first_later chunk chunks j d some.0 some.1 h (omega arith)
  first_keys_rise (chunk ∷ chunks) some h (suc i) zero d le l = absurd (omega arith)
  first_keys_rise (chunk ∷ chunks) some h (suc i) (suc j) d le l = first_keys_rise chunks some.1 (sorted_back chunk (joined chunks) h) i j d (omega arith) (omega arith)

  module _ (chunks : List (List Entry)) (some : NoneEmpty chunks) (order : T (is_sorted byte_order (joined chunks))) where
    some_at : (i : ℕ) → i < length chunks → 0 < length (get_or chunks i [])
    some_at i l = (all_back (λ (c : List Entry). 0 < length c) (take i chunks) (get_or chunks i [] ∷ drop (suc i) chunks) (subst NoneEmpty (cut chunks i [] l) some)).0

    order_at : (i : ℕ) → i < length chunks → T (is_sorted byte_order (joined (take i chunks) ++ (get_or chunks i [] ++ joined (drop (suc i) chunks))))
    order_at i l = subst (λ (es : List Entry). T (is_sorted byte_order es)) (parts chunks (take i chunks) (get_or chunks i []) (drop (suc i) chunks) (cut chunks i [] l)) order

    belongs : (at : ℕ) → at < length chunks → (0 < at → first_order key (get_or chunks at []) ≡ Greater → ⊥)
        → T (below_all byte_order key (joined (drop (suc at) chunks))) → BelongsIn key chunks at
    belongs at l low above = let place : length (take at chunks) ≡ at = length-take-le at chunks (omega arith) in record {
      front = take at chunks;
      chunk = get_or chunks at [];
      back = drop (suc at) chunks;
      is = cut chunks at [] l;
      place = place;
      below = chunks_below key (take at chunks) (get_or chunks at []) (joined (drop (suc at) chunks)) (some_at at l) (order_at at l) (λ p. low (omega (arith, place)));
      above = above;
    }

    pub belongs_equal : (at : ℕ) → at < length chunks → HoldsAt (λ chunk. first_order key chunk ≡ Equal) chunks at → BelongsIn key chunks at
    belongs_equal at l is =
        let same : first_order key (get_or chunks at []) ≡ Equal = is [] in
        belongs at l (λ p g. absurd (not_both (first_order key (get_or chunks at [])) same g))
        (behind_equal key (get_or chunks at []) (joined (drop (suc at) chunks)) (sorted_back (joined (take at chunks)) _ (order_at at l)) same)
      where
        not_both : (o : Ordering) → o ≡ Equal → o ≡ Greater → ⊥
        not_both Less p q = absurd cc
        not_both Equal p q = absurd cc
        not_both Greater p q = absurd cc

    pub belongs_first : 0 < length chunks → (IsNonDecreasingBy (λ chunk. ordering_index (first_order key chunk)) chunks
        → IsPartitionPoint (λ chunk. first_order key chunk ≡ Less) (λ chunk. first_order key chunk ≡ Greater) chunks 0) → BelongsIn key chunks 0
    belongs_first l found =
        let parted = found (first_keys_rise chunks some order) in
        let all = chunks_above key chunks order (λ l. parted.1 0 [] (omega arith) l) in
        belongs 0 l (λ p. absurd (omega (arith, p)))
        (back_below key (get_or chunks 0 []) (joined (drop 1 chunks)) (subst (λ (es : List Entry). T (below_all byte_order key es)) (ap joined (cut chunks 0 [] l)) all))

    pub belongs_between : (at : ℕ) → (at ≡ 0 → ⊥) → at ≤ length chunks → (IsNonDecreasingBy (λ chunk. ordering_index (first_order key chunk)) chunks
        → IsPartitionPoint (λ chunk. first_order key chunk ≡ Less) (λ chunk. first_order key chunk ≡ Greater) chunks at) → BelongsIn key chunks (at - 1)
    belongs_between zero some_before l found = absurd (some_before refl)
    belongs_between (suc i) some_before l found =
        let parted = found (first_keys_rise chunks some order) in
        let low : first_order key (get_or chunks i []) ≡ Less = parted.0 i [] (omega arith) (omega arith) in
        let here : i < length chunks = omega (arith, l) in
        let is : suc i - 1 ≡ i = omega arith in
        subst (BelongsIn key chunks) (sym is) (belongs i here (λ p g. absurd (not_both (first_order key (get_or chunks i [])) low g))
        (chunks_above key (drop (suc i) chunks)
        (sorted_back (get_or chunks i []) _ (sorted_back (joined (take i chunks)) _ (order_at i here)))
        (λ l'. next i l' (parted.1))))
      where
        not_both : (o : Ordering) → o ≡ Less → o ≡ Greater → ⊥
        not_both Less p q = absurd cc
        not_both Equal p q = absurd cc
        not_both Greater p q = absurd cc

        long_drop : (n : ℕ) (xs : List (List Entry)) → 0 < length (drop n xs) → n < length xs
        long_drop zero xs h = h
        long_drop (suc n) [] h = absurd (omega (arith, h))
        long_drop (suc n) (x ∷ xs) h = omega (arith, long_drop n xs h)

        next : (i : ℕ) → 0 < length (drop (suc i) chunks) → ((k : ℕ) (d : List Entry) → suc i ≤ k → k < length chunks → first_order key (get_or chunks k d) ≡ Greater)
            → first_order key (get_or (drop (suc i) chunks) 0 []) ≡ Greater
        next i l above =
            let same = get_or-drop (suc i) chunks 0 [] in
            ap (first_order key) same ∙ above (suc i + 0) [] (omega arith) (omega (arith, long_drop (suc i) chunks l))

    -- a chunk that doesn't begin above the key, and of which the next one does
    pub belongs_here : (at : ℕ) → at < length chunks → (0 < at → first_order key (get_or chunks at []) ≡ Greater → ⊥)
        → (at + 1 ≡ length chunks) ⊎ (first_order key (get_or chunks (at + 1) []) ≡ Greater) → BelongsIn key chunks at
    belongs_here at l low (inl last) = belongs at l low
        (subst (λ (r : List (List Entry)). T (below_all byte_order key (joined r))) (sym (drop_all (suc at) chunks (omega (arith, last)))) tt)
    belongs_here at l low (inr next) = belongs at l low
        (chunks_above key (drop (suc at) chunks) (sorted_back (get_or chunks at []) _ (sorted_back (joined (take at chunks)) _ (order_at at l)))
        (λ some. ap (first_order key) (get_or-drop (suc at) chunks 0 [] ∙ ap (λ (n : ℕ). get_or chunks n []) (on at)) ∙ next))
      where
        on : (at : ℕ) → suc at + 0 ≡ at + 1
        on at = omega arith

    chunk_order : (at : ℕ) → at < length chunks → T (is_sorted byte_order (get_or chunks at []))
    chunk_order at l = sorted_front (get_or chunks at []) _ (sorted_back (joined (take at chunks)) _ (order_at at l))

    -- a chunk with a row that isn't above the key, and one that isn't below
    between_rows : (at i j : ℕ) → at < length chunks → i < length (get_or chunks at []) → j < length (get_or chunks at [])
        → (byte_order (get_or (get_or chunks at []) i ([], [])).0 key ≡ Greater → ⊥) → (byte_order (get_or (get_or chunks at []) j ([], [])).0 key ≡ Less → ⊥) → BelongsIn key chunks at
    between_rows at i j l p q low high = belongs at l (λ _. not_above key (get_or chunks at []) i (chunk_order at l) p low)
        (behind_row key (get_or chunks at []) (joined (drop (suc at) chunks)) j (sorted_back (joined (take at chunks)) _ (order_at at l)) q high)

    -- a key with a place in the chunk
    pub belongs_found : (at i : ℕ) → at < length chunks → IsKeyPlace key (get_or chunks at []) (Ok i) → BelongsIn key chunks at
    belongs_found at i l place = between_rows at i i l place.0 place.0 (equal_not _ (place.1 ([], []))).1 (equal_not _ (place.1 ([], []))).0

    before_place : (at i : ℕ) → at < length chunks → (i ≡ 0 → ⊥) → IsKeyPlace key (get_or chunks at []) (Err i) → byte_order (get_or (get_or chunks at []) (i - 1) ([], [])).0 key ≡ Greater → ⊥
    before_place at i l some place = less_not _ ((place.1 (comparisons_rise key (get_or chunks at []) (chunk_order at l))).0 (i - 1) ([], []) (omega arith) (below_it i some))
      where
        below_it : (i : ℕ) → (i ≡ 0 → ⊥) → i - 1 < i
        below_it zero some = absurd (some refl)
        below_it (suc i) some = omega arith

    pub belongs_among : (at i : ℕ) → at < length chunks → (i ≡ 0 → ⊥) → i < length (get_or chunks at []) → IsKeyPlace key (get_or chunks at []) (Err i) → BelongsIn key chunks at
    belongs_among at i l some within place =
        between_rows at (i - 1) i l (omega (arith, within)) within (before_place at i l some place)
        (greater_not _ ((place.1 (comparisons_rise key (get_or chunks at []) (chunk_order at l))).1 i ([], []) (omega arith) within))

    pub belongs_behind : (at i : ℕ) → at < length chunks → (i ≡ 0 → ⊥) → IsKeyPlace key (get_or chunks at []) (Err i)
        → (at + 1 ≡ length chunks) ⊎ (first_order key (get_or chunks (at + 1) []) ≡ Greater) → BelongsIn key chunks at
    belongs_behind at i l some place next =
        belongs_here at l (λ _. not_above key (get_or chunks at []) (i - 1) (chunk_order at l) (last_before i some place.0) (before_place at i l some place)) next
      where
        last_before : (i : ℕ) → (i ≡ 0 → ⊥) → i ≤ length (get_or chunks at []) → i - 1 < length (get_or chunks at [])
        last_before zero some le = absurd (some refl)
        last_before (suc i) some le = omega (arith, le)

-- ---- the chunk of a key

module _ {key : List ℕ} {chunks : List (List Entry)} {at : ℕ} (b : BelongsIn key chunks at) where
  pub front_is : take at chunks ≡ b.front
  front_is = ap (take at) b.is ∙ take_at b.front (b.chunk ∷ b.back) at b.place

  pub back_is : drop (suc at) chunks ≡ b.back
  back_is = ap (drop (suc at)) b.is ∙ drop_past b.front b.chunk b.back at b.place

  pub chunk_is : (d : List Entry) → get_or chunks at d ≡ b.chunk
  chunk_is d = ap (λ (l : List (List Entry)). get_or l at d) b.is ∙ get_or_at b.front b.chunk b.back d at b.place

  pub within : at < length chunks
  within = omega (arith, b.place, ap length b.is, length-append b.front (b.chunk ∷ b.back))

  pub parts_are : joined chunks ≡ joined b.front ++ (b.chunk ++ joined b.back)
  parts_are = parts chunks b.front b.chunk b.back b.is

  module _ (P : List Entry → Type 0) (all : AllByRecursion P chunks) where
    pub front_all : AllByRecursion P b.front
    front_all = all_front P b.front (b.chunk ∷ b.back) (subst (AllByRecursion P) b.is all)

    pub here_all : P b.chunk
    here_all = (all_back P b.front (b.chunk ∷ b.back) (subst (AllByRecursion P) b.is all)).0

    pub back_all : AllByRecursion P b.back
    back_all = (all_back P b.front (b.chunk ∷ b.back) (subst (AllByRecursion P) b.is all)).1

-- ---- one chunk looked at

pub looked : (key : List ℕ) (chunks all : List (List Entry)) (at : ℕ) (chunk : List Entry) → chunks ≡ all → T (is_sorted byte_order (joined all)) → BelongsIn key chunks at
    → chunk ≡ get_or chunks at chunk → T (is_sorted byte_order chunk) × (find byte_order key chunk ≡ find byte_order key (joined all))
looked key chunks all at chunk same order b is =
    let here : chunk ≡ b.chunk = is ∙ chunk_is b chunk in
    let whole : joined all ≡ joined b.front ++ (b.chunk ++ joined b.back) = sym (ap joined same) ∙ parts_are b in (
      subst (λ (es : List Entry). T (is_sorted byte_order es)) (sym here)
          (sorted_front b.chunk (joined b.back) (sorted_back (joined b.front) _ (subst (λ (es : List Entry). T (is_sorted byte_order es)) whole order))),
      ap (find byte_order key) here ∙ sym (ap (find byte_order key) whole ∙ find_part key (joined b.front) b.chunk (joined b.back) b.below b.above),
    )

-- ---- rows beyond the parts

pub beyond_parts-append : (a b : List (List Entry)) → beyond_parts (a ++ b) ≡ beyond_parts a + beyond_parts b
beyond_parts-append [] b = let g : beyond_parts b ≡ 0 + beyond_parts b = omega arith in g
beyond_parts-append (c ∷ a) b = let g : (length c - 96) + beyond_parts (a ++ b) ≡ ((length c - 96) + beyond_parts a) + beyond_parts b = omega (arith, beyond_parts-append a b) in g

pub crowd_some : (front : List (List Entry)) (chunk : List Entry) (back : List (List Entry))
    → crowd (front ++ chunk ∷ back) ≡ beyond_parts front + ((length chunk - 96) + beyond_parts back)
crowd_some [] chunk back = let g : (length chunk - 96) + beyond_parts back ≡ 0 + ((length chunk - 96) + beyond_parts back) = omega arith in g
crowd_some (c ∷ front) chunk back = beyond_parts-append (c ∷ front) (chunk ∷ back)

pub crowd_most : (chunks : List (List Entry)) → crowd chunks ≤ 32 + beyond_parts chunks
crowd_most [] = let g : 32 ≤ 32 + 0 = omega arith in g
crowd_most (chunk ∷ chunks) = let g : beyond_parts (chunk ∷ chunks) ≤ 32 + beyond_parts (chunk ∷ chunks) = omega arith in g

beyond_parts_most : (chunks : List (List Entry)) → NoneLonger chunks → beyond_parts chunks ≤ 32 * length chunks
beyond_parts_most [] most = let g : 0 ≤ 32 * 0 = omega arith in g
beyond_parts_most (c ∷ chunks) most =
    let g : (length c - 96) + beyond_parts chunks ≤ 32 * suc (length chunks) = omega (arith, most.0, beyond_parts_most chunks most.1) in g

-- enough spare chunks
pub has_room : (ops want many : ℕ) (g : ChunkList) → NoneLonger g.list.items → length g.list.items ≡ many → (want < ops → ops + 32 + 32 * many ≤ 32 * want) → want ≤ vec_len g.spare → HasSpares ops g
has_room ops want many g most same enough made few =
    let bound = enough (omega (arith, made, few)) in
    omega (arith, bound, made, same, crowd_most g.list.items, beyond_parts_most g.list.items most)

-- ---- a chunk made ready

-- a first chunk where there was none
pub begins : (old new : ChunkList) (chunk : List Entry) (key : List ℕ) → IsChunked old → old.list.items ≡ [] → new.list.items ≡ old.list.items ++ chunk ∷ [] → old.spare.items ≡ new.spare.items ++ chunk ∷ []
    → vec_len new.list ≡ vec_len old.list + 1 → vec_len new.spare + 1 ≡ vec_len old.spare → vec_capacity new.list ≡ vec_capacity old.list → vec_capacity new.spare ≡ vec_capacity old.spare → IsMadeReady key old new 0
begins old new chunk key was none pushed popped many fewer places spares =
    let free : AllEmpty (new.spare.items ++ chunk ∷ []) = subst AllEmpty popped was.free in
    let empty : chunk ≡ [] = (all_back (λ (c : List Entry). c ≡ []) new.spare.items (chunk ∷ []) free).0 in
    let is : new.list.items ≡ [] ∷ [] = pushed ∙ ap (λ (l : List (List Entry)). l ++ chunk ∷ []) none ∙ ap (λ (c : List Entry). c ∷ []) empty in
    record {
      belongs = record { front = []; chunk = []; back = []; is = is; place = refl; below = tt; above = tt };
      rows = ap joined is ∙ sym (ap joined none);
      short = omega arith;
      front_some = tt;
      back_some = tt;
      front_most = tt;
      back_most = tt;
      free = all_front (λ (c : List Entry). c ≡ []) new.spare.items (chunk ∷ []) free;
      places = omega (arith, was.places, many, fewer, places);
      spares = omega (arith, was.spares, many, fewer, spares);
      room = λ n room lt. let left = room (omega (arith, lt, fewer)) in let now : beyond_parts new.list.items ≡ 0 = ap beyond_parts is ∙ (omega arith) in omega (arith, left, ap crowd none, now, fewer);
    }

pub first_empty : (old : ChunkList) (list spare : List (List Entry)) (chunk : List Entry) → IsChunked old → old.list.items ≡ [] → list ≡ old.list.items ++ chunk ∷ [] → old.spare.items ≡ spare ++ chunk ∷ []
    → get_or list 0 [] ≡ []
first_empty old list spare chunk was none pushed popped =
    ap (λ (l : List (List Entry)). get_or l 0 []) (pushed ∙ ap (λ (l : List (List Entry)). l ++ chunk ∷ []) none)
    ∙ (all_back (λ (c : List Entry). c ≡ []) spare (chunk ∷ []) (subst AllEmpty popped was.free)).0

-- a chunk that isn't full
pub open_as_is : (key : List ℕ) (g : ChunkList) (at : ℕ) → IsChunked g → (b : BelongsIn key g.list.items at) → length b.chunk < 128 → IsMadeReady key g g at
open_as_is key g at was b short = record {
  belongs = b;
  rows = refl;
  short = short;
  front_some = front_all b (λ (c : List Entry). 0 < length c) was.some;
  back_some = back_all b (λ (c : List Entry). 0 < length c) was.some;
  front_most = front_all b (λ (c : List Entry). length c ≤ 128) was.most;
  back_most = back_all b (λ (c : List Entry). length c ≤ 128) was.most;
  free = was.free;
  places = was.places;
  spares = was.spares;
  room = λ n room lt. let left = room (omega (arith, lt)) in
      let all = ap crowd b.is ∙ crowd_some b.front b.chunk b.back in
      let same = ap beyond_parts b.is ∙ beyond_parts-append b.front (b.chunk ∷ b.back) in
      omega (arith, left, all, same);
}

-- a chunk that was split, of which the key belongs into the one half or the other
module _ (key : List ℕ) (old new : ChunkList) (at : ℕ) (was : IsChunked old) (b : BelongsIn key old.list.items at) (full : 128 ≤ length b.chunk) (s : IsSplit at old new) where
  halves : b.chunk ≡ s.lower ++ s.upper
  halves = sym (chunk_is b []) ∙ s.was

  now_is : new.list.items ≡ b.front ++ s.lower ∷ s.upper ∷ b.back
  now_is = s.is ∙ ap₂ (λ (f r : List (List Entry)). f ++ s.lower ∷ s.upper ∷ r) (front_is b) (back_is b)

  in_two : b.front ++ s.lower ∷ s.upper ∷ b.back ≡ (b.front ++ s.lower ∷ []) ++ s.upper ∷ b.back
  in_two = sym (append_assoc b.front (s.lower ∷ []) (s.upper ∷ b.back))

  long : (32 ≤ length s.upper) × (length s.upper ≤ 96)
  long =
      let sum = ap length halves ∙ length-append s.lower s.upper in
      let most = here_all b (λ (c : List Entry). length c ≤ 128) was.most in
      (omega (arith, sum, full, s.low.1), omega (arith, sum, most, s.low.0))

  before_is : joined old.list.items ≡ joined b.front ++ (s.lower ++ (s.upper ++ joined b.back))
  before_is = parts_are b ∙ ap (λ (l : List Entry). joined b.front ++ (l ++ joined b.back)) halves
      ∙ ap (λ (l : List Entry). joined b.front ++ l) (append_assoc s.lower s.upper (joined b.back))

  rows_is : joined new.list.items ≡ joined old.list.items
  rows_is = parts new.list.items b.front s.lower (s.upper ∷ b.back) now_is ∙ sym before_is

  order : T (is_sorted byte_order (joined b.front ++ (s.lower ++ (s.upper ++ joined b.back))))
  order = subst (λ (es : List Entry). T (is_sorted byte_order es)) before_is was.order

  room_is : (n : ℕ) → HasSpares (suc n) old → vec_len new.spare < n → suc n + beyond_parts new.list.items ≤ 32 * vec_len new.spare
  room_is n room lt =
      let left = room (omega (arith, lt, s.spare)) in
      let all = ap crowd b.is ∙ crowd_some b.front b.chunk b.back in
      let now = ap beyond_parts now_is ∙ beyond_parts-append b.front (s.lower ∷ s.upper ∷ b.back) in
      omega (arith, left, all, now, full, s.low.1, long.1, s.spare)

  some_front : NoneEmpty b.front
  some_front = front_all b (λ (c : List Entry). 0 < length c) was.some

  some_back : NoneEmpty b.back
  some_back = back_all b (λ (c : List Entry). 0 < length c) was.some

  most_front : NoneLonger b.front
  most_front = front_all b (λ (c : List Entry). length c ≤ 128) was.most

  most_back : NoneLonger b.back
  most_back = back_all b (λ (c : List Entry). length c ≤ 128) was.most

  pub upper_at : (d : List Entry) → get_or new.list.items (at + 1) d ≡ s.upper
  upper_at d = ap (λ (l : List (List Entry)). get_or l (at + 1) d) (now_is ∙ in_two)
      ∙ get_or_at (b.front ++ s.lower ∷ []) s.upper b.back d (at + 1) (omega (arith, length-append b.front (s.lower ∷ []), b.place))

  pub open_lower : first_order key s.upper ≡ Greater → IsMadeReady key old new at
  open_lower above = record {
    belongs = record {
      front = b.front;
      chunk = s.lower;
      back = s.upper ∷ b.back;
      is = now_is;
      place = b.place;
      below = b.below;
      above = rest_above key s.upper (joined b.back) (sorted_back s.lower _ (sorted_back (joined b.front) _ order)) above;
    };
    rows = rows_is;
    short = omega (arith, s.low.1);
    front_some = some_front;
    back_some = (omega (arith, long.0), some_back);
    front_most = most_front;
    back_most = (omega (arith, long.1), most_back);
    free = s.free;
    places = omega (arith, was.places, s.many, s.spare, s.places);
    spares = omega (arith, was.spares, s.many, s.spare, s.spares);
    room = room_is;
  }

  joined_front : joined (b.front ++ s.lower ∷ []) ≡ joined b.front ++ s.lower
  joined_front = joined-append b.front (s.lower ∷ []) ∙ ap (λ (l : List Entry). joined b.front ++ l) (append-nil s.lower)

  order_upper : T (is_sorted byte_order (joined (b.front ++ s.lower ∷ []) ++ (s.upper ++ joined b.back)))
  order_upper = subst (λ (es : List Entry). T (is_sorted byte_order es)) (sym (append_assoc (joined b.front) s.lower (s.upper ++ joined b.back))
      ∙ ap (λ (l : List Entry). l ++ (s.upper ++ joined b.back)) (sym joined_front)) order

  pub open_upper : (first_order key s.upper ≡ Greater → ⊥) → IsMadeReady key old new (at + 1)
  open_upper low = record {
    belongs = record {
      front = b.front ++ s.lower ∷ [];
      chunk = s.upper;
      back = b.back;
      is = now_is ∙ in_two;
      place = omega (arith, length-append b.front (s.lower ∷ []), b.place);
      below = chunks_below key (b.front ++ s.lower ∷ []) s.upper (joined b.back) (omega (arith, long.0)) order_upper (λ p. low);
      above = b.above;
    };
    rows = rows_is;
    short = omega (arith, long.1);
    front_some = all_both (λ (c : List Entry). 0 < length c) b.front (s.lower ∷ []) some_front (omega (arith, s.low.0), tt);
    back_some = some_back;
    front_most = all_both (λ (c : List Entry). length c ≤ 128) b.front (s.lower ∷ []) most_front (omega (arith, s.low.1), tt);
    back_most = most_back;
    free = s.free;
    places = omega (arith, was.places, s.many, s.spare, s.places);
    spares = omega (arith, was.spares, s.many, s.spare, s.spares);
    room = room_is;
  }

-- ---- an operation in the chunk that was made ready

module _ (op : RowOp) (old mid : ChunkList) (at : ℕ) (was : IsChunked old) (o : IsMadeReady (key_of op) old mid at) (held : List Entry) (here : held ≡ get_or mid.list.items at held) where
  held_is : held ≡ o.belongs.chunk
  held_is = here ∙ chunk_is o.belongs held

  whole : joined old.list.items ≡ joined o.belongs.front ++ (o.belongs.chunk ++ joined o.belongs.back)
  whole = sym o.rows ∙ parts_are o.belongs

  pub held_order : T (is_sorted byte_order held)
  held_order = subst (λ (es : List Entry). T (is_sorted byte_order es)) (sym held_is)
      (sorted_front o.belongs.chunk (joined o.belongs.back) (sorted_back (joined o.belongs.front) _ (subst (λ (es : List Entry). T (is_sorted byte_order es)) whole was.order)))

  pub held_short : length held < 128
  held_short = omega (arith, o.short, ap length held_is)

  module _ (chunk : List Entry) (makes : chunk ≡ entries_after held op) where
    set_is : set mid.list.items at chunk ≡ o.belongs.front ++ chunk ∷ o.belongs.back
    set_is = ap (λ (l : List (List Entry)). set l at chunk) o.belongs.is ∙ set_at o.belongs.front o.belongs.chunk o.belongs.back chunk at o.belongs.place

    after : joined o.belongs.front ++ (chunk ++ joined o.belongs.back) ≡ entries_after (joined old.list.items) op
    after =
        ap (λ (c : List Entry). joined o.belongs.front ++ (c ++ joined o.belongs.back)) (makes ∙ ap (λ (c : List Entry). entries_after c op) held_is)
        ∙ sym (after_part op (joined o.belongs.front) o.belongs.chunk (joined o.belongs.back) o.belongs.below o.belongs.above)
        ∙ ap (λ (es : List Entry). entries_after es op) (sym whole)

    after_order : T (is_sorted byte_order (entries_after (joined old.list.items) op))
    after_order = after_sorted (joined old.list.items) was.order op

    chunk_long : length chunk ≤ length o.belongs.chunk + 1
    chunk_long = omega (arith, ap length makes, after_long held op, ap length held_is)

    pub set_rows : joined (set mid.list.items at chunk) ≡ entries_after (joined old.list.items) op
    set_rows = parts (set mid.list.items at chunk) o.belongs.front chunk o.belongs.back set_is ∙ after

    pub grown : (more : ℕ) → GrowsBy more held chunk → GrowsBy more (joined old.list.items) (entries_after (joined old.list.items) op)
    grown more grows =
        let here : (list_size o.belongs.chunk + more) % 18446744073709551616 ≡ list_size chunk % 18446744073709551616 = ap (λ (c : List Entry). (list_size c + more) % 18446744073709551616) (sym held_is) ∙ grows in
        ap (λ (es : List Entry). (list_size es + more) % 18446744073709551616) whole
        ∙ part_grows (joined o.belongs.front) o.belongs.chunk (joined o.belongs.back) chunk more here
        ∙ ap (λ (es : List Entry). list_size es % 18446744073709551616) after

    -- it has rows
    pub set_chunked : (new : ChunkList) → new.list.items ≡ set mid.list.items at chunk → new.spare.items ≡ mid.spare.items → vec_len new.list ≡ vec_len mid.list → vec_len new.spare ≡ vec_len mid.spare
        → vec_capacity new.list ≡ vec_capacity mid.list → vec_capacity new.spare ≡ vec_capacity mid.spare → 0 < length chunk → IsChunked new
    set_chunked new list spare many free places spares some = record {
      order = subst (λ (es : List Entry). T (is_sorted byte_order es)) (sym (ap joined list ∙ set_rows)) after_order;
      some = subst NoneEmpty (sym (list ∙ set_is)) (all_both (λ (c : List Entry). 0 < length c) o.belongs.front (chunk ∷ o.belongs.back) o.front_some (some, o.back_some));
      most = subst NoneLonger (sym (list ∙ set_is)) (all_both (λ (c : List Entry). length c ≤ 128) o.belongs.front (chunk ∷ o.belongs.back) o.front_most
          (omega (arith, chunk_long, o.short), o.back_most));
      free = subst AllEmpty (sym spare) o.free;
      places = omega (arith, o.places, many, free, places);
      spares = omega (arith, o.spares, many, free, spares);
    }

    pub set_room : (n : ℕ) → HasSpares (suc n) old → vec_len mid.spare < n → n + crowd (set mid.list.items at chunk) ≤ 32 * vec_len mid.spare
    set_room n room lt =
        let left = o.room n room lt in
        let before = ap beyond_parts o.belongs.is ∙ beyond_parts-append o.belongs.front (o.belongs.chunk ∷ o.belongs.back) in
        let now = ap crowd set_is ∙ crowd_some o.belongs.front chunk o.belongs.back in
        omega (arith, left, before, now, chunk_long)

    -- it has none, and goes to the spare ones
    module _ (none : chunk ≡ []) where
      removed_is : remove (set mid.list.items at chunk) at ≡ o.belongs.front ++ o.belongs.back
      removed_is = ap (λ (l : List (List Entry)). remove l at) set_is
          ∙ ap₂ (λ (f r : List (List Entry)). f ++ r) (take_at o.belongs.front (chunk ∷ o.belongs.back) at o.belongs.place) (drop_past o.belongs.front chunk o.belongs.back at o.belongs.place)

      pub removed_rows : joined (remove (set mid.list.items at chunk) at) ≡ entries_after (joined old.list.items) op
      removed_rows = ap joined removed_is ∙ joined-append o.belongs.front o.belongs.back
          ∙ ap (λ (c : List Entry). joined o.belongs.front ++ (c ++ joined o.belongs.back)) (sym none) ∙ after

      pub removed_chunked : (new : ChunkList) (gone : List Entry) → new.list.items ≡ remove (set mid.list.items at chunk) at → gone ≡ get_or (set mid.list.items at chunk) at gone
          → new.spare.items ≡ mid.spare.items ++ gone ∷ [] → vec_len new.list + 1 ≡ vec_len mid.list → vec_len new.spare ≡ vec_len mid.spare + 1
          → vec_capacity new.list ≡ vec_capacity mid.list → vec_capacity new.spare ≡ vec_capacity mid.spare → IsChunked new
      removed_chunked new gone list took spare many free places spares =
          let empty : gone ≡ [] = took ∙ ap (λ (l : List (List Entry)). get_or l at gone) set_is ∙ get_or_at o.belongs.front chunk o.belongs.back gone at o.belongs.place ∙ none in
          record {
            order = subst (λ (es : List Entry). T (is_sorted byte_order es)) (sym (ap joined list ∙ removed_rows)) after_order;
            some = subst NoneEmpty (sym (list ∙ removed_is)) (all_both (λ (c : List Entry). 0 < length c) o.belongs.front o.belongs.back o.front_some o.back_some);
            most = subst NoneLonger (sym (list ∙ removed_is)) (all_both (λ (c : List Entry). length c ≤ 128) o.belongs.front o.belongs.back o.front_most o.back_most);
            free = subst AllEmpty (sym spare) (all_both (λ (c : List Entry). c ≡ []) mid.spare.items (gone ∷ []) o.free (empty, tt));
            places = omega (arith, o.places, many, free, places);
            spares = omega (arith, o.spares, many, free, spares);
          }

      pub removed_room : (n spare : ℕ) → HasSpares (suc n) old → spare ≡ vec_len mid.spare + 1 → spare < n → n + crowd (remove (set mid.list.items at chunk) at) ≤ 32 * spare
      removed_room n spare room more lt =
          let left = o.room n room (omega (arith, more, lt)) in
          let before = ap beyond_parts o.belongs.is ∙ beyond_parts-append o.belongs.front (o.belongs.chunk ∷ o.belongs.back) in
          let now = ap crowd removed_is in
          let most = crowd_most (o.belongs.front ++ o.belongs.back) in
          let rest = beyond_parts-append o.belongs.front o.belongs.back in
          omega (arith, left, before, now, most, rest, more)

-- ---- two neighbours joined

-- in a list of chunks
module _ (front : List (List Entry)) (a b : List Entry) (back : List (List Entry)) (at : ℕ) (place : length front ≡ at) where
  in_parts : front ++ a ∷ b ∷ back ≡ (front ++ a ∷ []) ++ b ∷ back
  in_parts = sym (append_assoc front (a ∷ []) (b ∷ back))

  next : length (front ++ a ∷ []) ≡ at + 1
  next = omega (arith, length-append front (a ∷ []), place)

  without_second : remove (front ++ a ∷ b ∷ back) (at + 1) ≡ front ++ a ∷ back
  without_second =
      ap (λ (l : List (List Entry)). remove l (at + 1)) in_parts
      ∙ ap₂ (λ (f r : List (List Entry)). f ++ r) (take_at (front ++ a ∷ []) (b ∷ back) (at + 1) next) (drop_past (front ++ a ∷ []) b back (at + 1) next)
      ∙ append_assoc front (a ∷ []) back

  joined_once : set (remove (front ++ a ∷ b ∷ back) (at + 1)) at (a ++ b) ≡ front ++ (a ++ b) ∷ back
  joined_once = ap (λ (l : List (List Entry)). set l at (a ++ b)) without_second ∙ set_at front a back (a ++ b) at place

  same_rows : joined (front ++ (a ++ b) ∷ back) ≡ joined (front ++ a ∷ b ∷ back)
  same_rows =
      joined-append front ((a ++ b) ∷ back)
      ∙ ap (λ (l : List Entry). joined front ++ l) (append_assoc a b (joined back))
      ∙ sym (joined-append front (a ∷ b ∷ back))

  no_more : length a + length b ≤ 64 → crowd (front ++ (a ++ b) ∷ back) ≤ crowd (front ++ a ∷ b ∷ back)
  no_more few = omega (arith, few, crowd_some front (a ++ b) back, crowd_some front a (b ∷ back), length-append a b)

module _ (old new : ChunkList) (at : ℕ) (was : IsChunked old) (within : at + 1 < length old.list.items)
    (few : length (get_or old.list.items at []) + length (get_or old.list.items (at + 1) []) ≤ 64) where
  on : at + 1 ≡ suc at
  on = omega arith

  abbrev one : List Entry
  one = get_or old.list.items at []

  abbrev two : List Entry
  two = get_or old.list.items (at + 1) []

  abbrev front : List (List Entry)
  front = take at old.list.items

  abbrev back : List (List Entry)
  back = drop (suc (suc at)) old.list.items

  as_two : old.list.items ≡ front ++ one ∷ two ∷ back
  as_two = cut_two old.list.items at [] (omega (arith, within)) ∙ ap (λ (k : ℕ). front ++ one ∷ get_or old.list.items k [] ∷ back) (sym on)

  place : length front ≡ at
  place = length-take-le at old.list.items (omega (arith, within))

  module _ (a b ab gone : List Entry) (second : b ≡ get_or old.list.items (at + 1) b) (first : a ≡ get_or (remove old.list.items (at + 1)) at a) (both_is : ab ≡ a ++ b)
      (list : new.list.items ≡ set (remove old.list.items (at + 1)) at ab) where
    b_is : b ≡ two
    b_is = get_or_read old.list.items (at + 1) b within second []

    a_is : a ≡ one
    a_is = first ∙ ap (λ (l : List (List Entry)). get_or l at a) (ap (λ (l : List (List Entry)). remove l (at + 1)) as_two ∙ without_second front one two back at place)
        ∙ get_or_at front one back a at place

    list_is : new.list.items ≡ front ++ (one ++ two) ∷ back
    list_is = list
        ∙ ap₂ (λ (l : List (List Entry)) (c : List Entry). set (remove l (at + 1)) at c) as_two (both_is ∙ ap₂ (λ (x y : List Entry). x ++ y) a_is b_is)
        ∙ joined_once front one two back at place

    rows_kept : joined new.list.items ≡ joined old.list.items
    rows_kept = ap joined list_is ∙ same_rows front one two back at place ∙ ap joined (sym as_two)

    pub joins : gone ≡ [] → new.spare.items ≡ old.spare.items ++ gone ∷ [] → vec_len new.list + 1 ≡ vec_len old.list → vec_len new.spare ≡ vec_len old.spare + 1
        → vec_capacity new.list ≡ vec_capacity old.list → vec_capacity new.spare ≡ vec_capacity old.spare → IsRearranged old new
    joins empty spare many free places spares =
        let some = subst NoneEmpty as_two was.some in
        let most = subst NoneLonger as_two was.most in
        let low = all_back (λ (c : List Entry). 0 < length c) front (one ∷ two ∷ back) some in
        let high = all_back (λ (c : List Entry). length c ≤ 128) front (one ∷ two ∷ back) most in
        let sum = length-append one two in
        record {
          rows = rows_kept;
          chunked = record {
            order = subst (λ (es : List Entry). T (is_sorted byte_order es)) (sym rows_kept) was.order;
            some = subst NoneEmpty (sym list_is) (all_both (λ (c : List Entry). 0 < length c) front ((one ++ two) ∷ back)
                (all_front (λ (c : List Entry). 0 < length c) front (one ∷ two ∷ back) some) (omega (arith, low.0, sum), low.1.1));
            most = subst NoneLonger (sym list_is) (all_both (λ (c : List Entry). length c ≤ 128) front ((one ++ two) ∷ back)
                (all_front (λ (c : List Entry). length c ≤ 128) front (one ∷ two ∷ back) most) (omega (arith, few, sum), high.1.1));
            free = subst AllEmpty (sym spare) (all_both (λ (c : List Entry). c ≡ []) old.spare.items (gone ∷ []) was.free (empty, tt));
            places = omega (arith, was.places, many, free, places);
            spares = omega (arith, was.spares, many, free, spares);
          };
          room = λ n room lt.
              let left = room (omega (arith, lt, free)) in
              let before = ap crowd as_two in
              let now = ap crowd list_is in
              let less = no_more front one two back at place few in
              omega (arith, left, before, now, less, free);
        }

-- nothing changed
pub as_it_was : (g : ChunkList) → IsChunked g → IsRearranged g g
as_it_was g was = record { rows = refl; chunked = was; room = λ n room. room }

pub rearranged_twice : (a b c : ChunkList) → IsRearranged a b → IsRearranged b c → IsRearranged a c
rearranged_twice a b c first second = record {
  rows = second.rows ∙ first.rows;
  chunked = second.chunked;
  room = λ n room. second.room n (first.room n room);
}

-- ---- spare chunks given back

left_room : (old new held room most want many : ℕ) → new + (old - most) ≡ old → want ≤ most → (want < room → room + 32 + 32 * many ≤ 32 * want) → held ≤ 32 + 32 * many
    → (old < room → room + held ≤ 32 * old) → new < room → room + held ≤ 32 * new
left_room old new held room most want many len enough wants bound was few = grind (arith, len, enough, wants, bound, was, few)

module _ (old new : ChunkList) (was : IsChunked old) (list : new.list ≡ old.list) (most : ℕ) (spare : new.spare.items ≡ take most old.spare.items)
    (len : vec_len new.spare + (vec_len old.spare - most) ≡ vec_len old.spare) (places : vec_capacity new.spare ≡ vec_capacity old.spare) where
  items : new.list.items ≡ old.list.items
  items = ap (λ l. l.items) list

  pub given_back : IsChunked new
  given_back = record {
    order = subst (λ (l : List (List Entry)). T (is_sorted byte_order (joined l))) (sym items) was.order;
    some = subst NoneEmpty (sym items) was.some;
    most = subst NoneLonger (sym items) was.most;
    free = subst AllEmpty (sym spare) (all_take (λ (c : List Entry). c ≡ []) most old.spare.items was.free);
    places = omega (arith, was.places, ap vec_len list, ap vec_capacity list, len);
    spares = omega (arith, was.spares, ap vec_len list, places, len);
  }

  pub room_left : (room want many : ℕ) → want ≤ most → length old.list.items ≡ many → (want < room → room + 32 + 32 * many ≤ 32 * want) → HasSpares room old → HasSpares room new
  room_left room want many enough long wants had few =
      let bound : crowd new.list.items ≤ 32 + 32 * many =
      omega (arith, crowd_most new.list.items, beyond_parts_most new.list.items given_back.most, ap length items, long) in
      let before = ap crowd items in
      left_room (vec_len old.spare) (vec_len new.spare) (crowd new.list.items) room most want many len enough wants bound (λ l. omega (arith, had l, before)) few
