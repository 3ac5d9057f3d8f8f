-- Places among the rows of chunks, and the rows between two.
use Rattle.std.proofs.Common.{◌≡◌, ℕ, zero, suc, ◌+◌, ◌-◌, ◌<◌, ◌≤◌, T, List, [], ◌∷◌, ◌++◌, length, get_or, take, drop, Option, Some, None, refl, sym, ap, ap₂, subst, ◌∙◌, arith, append_assoc}
use Rattle.std.specs.Ordering.{is_lt}
use Rattle.std.specs.FinMap.{is_sorted}
use Rattle.std.proofs.lemmas.List.{length-append, length-take-le, take_at, get_or-drop, get_or_read, get_or-append-add, get_or_append_left, take-append-le, drop-append-le, drop_all}
use Rattle.std.specs.Prelude.{true, false}
use Rattle.byte_maps.specs.ByteMap.{byte_order}
use Rattle.meta_rows.specs.Prelude.{AllBelow, NoneBelow, StartsAt, IsLastBelow, EndsAt, Entry, joined, NoneEmpty, BelongsIn, IsPlace, rows_before}
use Rattle.meta_rows.proofs.PartLemmas.{sorted_front, sorted_back}
use Rattle.meta_rows.proofs.RangeLemmas.{all_from, starts_behind, range_none}
use Rattle.meta_rows.proofs.ChunkLemmas.{cut, joined-append, all_both, front_is, chunk_is, parts_are}

module _ {X : Type 0} where
  take_over : (a b : List X) (n : ℕ) → take (length a + n) (a ++ b) ≡ a ++ take n b
  take_over [] b n = let is : 0 + n ≡ n = omega arith in ap (λ k. take k b) is
  take_over (x ∷ a) b n = let is : suc (length a) + n ≡ suc (length a + n) = omega arith in ap (λ k. take k (x ∷ a ++ b)) is ∙ ap (λ (l : List X). x ∷ l) (take_over a b n)

  drop_over : (a b : List X) (n : ℕ) → drop (length a + n) (a ++ b) ≡ drop n b
  drop_over [] b n = let is : 0 + n ≡ n = omega arith in ap (λ k. drop k b) is
  drop_over (x ∷ a) b n = let is : suc (length a) + n ≡ suc (length a + n) = omega arith in ap (λ k. drop k (x ∷ a ++ b)) is ∙ drop_over a b n

-- ---- where a range begins and ends

module _ (key : List ℕ) (chunks : List (List Entry)) (at p : ℕ) (rows : List Entry) (b : BelongsIn key chunks at) (order : T (is_sorted byte_order (joined chunks)))
    (here : rows ≡ get_or chunks at rows) where
  rows_are : rows ≡ b.chunk
  rows_are = here ∙ chunk_is b rows

  whole : joined chunks ≡ joined b.front ++ (b.chunk ++ joined b.back)
  whole = parts_are b

  pub rows_order : T (is_sorted byte_order rows)
  rows_order = subst (λ (es : List Entry). T (is_sorted byte_order es)) (sym rows_are)
      (sorted_front b.chunk (joined b.back) (sorted_back (joined b.front) _ (subst (λ (es : List Entry). T (is_sorted byte_order es)) whole order)))

  before_is : rows_before chunks (at, p) ≡ length (joined b.front) + p
  before_is = ap (λ (f : List (List Entry)). length (joined f) + p) (front_is b)

  pub begins_there : StartsAt key rows p → StartsAt key (joined chunks) (rows_before chunks (at, p))
  begins_there starts =
      let s : StartsAt key b.chunk p = subst (λ (es : List Entry). StartsAt key es p) rows_are starts in
      let low : take (length (joined b.front) + p) (joined chunks) ≡ joined b.front ++ take p b.chunk =
      ap (take (length (joined b.front) + p)) whole ∙ take_over (joined b.front) (b.chunk ++ joined b.back) p ∙ ap (λ (l : List Entry). joined b.front ++ l) (take-append-le p b.chunk (joined b.back) s.0) in
      let high : drop (length (joined b.front) + p) (joined chunks) ≡ drop p b.chunk ++ joined b.back =
      ap (drop (length (joined b.front) + p)) whole ∙ drop_over (joined b.front) (b.chunk ++ joined b.back) p ∙ drop-append-le p b.chunk (joined b.back) s.0 in
      let long = ap length whole ∙ length-append (joined b.front) (b.chunk ++ joined b.back) in
      let rest = length-append b.chunk (joined b.back) in
      subst (StartsAt key (joined chunks)) (sym before_is) (
        omega (arith, long, rest, s.0),
        subst (AllBelow key) (sym low) (all_both (λ (row : Entry). is_lt (byte_order row.0 key) ≡ true) (joined b.front) (take p b.chunk) b.below s.1),
        subst (NoneBelow key) (sym high) (all_both (λ (row : Entry). is_lt (byte_order row.0 key) ≡ false) (drop p b.chunk) (joined b.back) s.2 (all_from key (joined b.back) b.above)),
      )

  pub place_there : StartsAt key rows p → IsPlace chunks (at, p)
  place_there starts =
      let many = ap length b.is ∙ length-append b.front (b.chunk ∷ b.back) in
      let same = ap length rows_are in
      let held = ap length (chunk_is b []) in
      (omega (arith, many, b.place), omega (arith, starts.0, same, held))

-- a row of a chunk among all
module _ (chunks : List (List Entry)) (at p : ℕ) (within : at < length chunks) (some : p < length (get_or chunks at [])) where
  parts_at : joined chunks ≡ joined (take at chunks) ++ (get_or chunks at [] ++ joined (drop (suc at) chunks))
  parts_at = ap joined (cut chunks at [] within) ∙ joined-append (take at chunks) (get_or chunks at [] ∷ drop (suc at) chunks)

  joined_at : (d : Entry) → get_or (joined chunks) (rows_before chunks (at, p)) d ≡ get_or (get_or chunks at []) p d
  joined_at d =
      ap (λ (l : List Entry). get_or l (length (joined (take at chunks)) + p) d) parts_at
      ∙ get_or-append-add (joined (take at chunks)) (get_or chunks at [] ++ joined (drop (suc at) chunks)) p d
      ∙ get_or_append_left (get_or chunks at []) (joined (drop (suc at) chunks)) d p some

  joined_within : rows_before chunks (at, p) < length (joined chunks)
  joined_within =
      let all = ap length parts_at ∙ length-append (joined (take at chunks)) (get_or chunks at [] ++ joined (drop (suc at) chunks)) in
      let rest = length-append (get_or chunks at []) (joined (drop (suc at) chunks)) in
      omega (arith, all, rest, some)

-- the last row below a key, of which the chunk has another one behind it
module _ (key : List ℕ) (chunks : List (List Entry)) (at p : ℕ) (rows : List Entry) (within : at < length chunks) (here : rows ≡ get_or chunks at rows)
    (last : IsLastBelow key rows p) where
  held : rows ≡ get_or chunks at []
  held = get_or_read chunks at rows within here []

  pub ends_behind : T (is_sorted byte_order (joined chunks)) → StartsAt key (joined chunks) (rows_before chunks (at, p + 1))
  ends_behind order =
      let d : Entry = ([], []) in
      let n = rows_before chunks (at, p) in
      let on : rows_before chunks (at, p + 1) ≡ suc n = omega arith in
      let first : p < length (get_or chunks at []) = omega (arith, last.0, ap length held) in
      let second : p + 1 < length (get_or chunks at []) = omega (arith, last.0, ap length held) in
      let one = joined_at chunks at p within first d ∙ ap (λ (l : List Entry). get_or l p d) (sym held) in
      let two =
      ap (λ k. get_or (joined chunks) k d) (sym on)
      ∙ joined_at chunks at (p + 1) within second d
      ∙ ap (λ (l : List Entry). get_or l (p + 1) d) (sym held) in
      let low = ap (λ (row : Entry). is_lt (byte_order row.0 key)) one ∙ last.1 d in
      let high = ap (λ (row : Entry). is_lt (byte_order row.0 key)) two ∙ last.2 d in
      let long : suc n < length (joined chunks) = omega (arith, joined_within chunks at (p + 1) within second) in
      subst (StartsAt key (joined chunks)) (sym on) (starts_behind key (joined chunks) n d order long low high)

pub ends_last : (chunks : List (List Entry)) (rows : List Entry) → 0 < length chunks → rows ≡ get_or chunks (length chunks - 1) rows
    → rows_before chunks (length chunks - 1, length rows) ≡ length (joined chunks)
ends_last chunks rows some here =
    let n = length chunks - 1 in
    let is = ap joined (cut chunks n rows (omega (arith, some))) ∙ joined-append (take n chunks) (get_or chunks n rows ∷ drop (suc n) chunks) in
    let none : drop (suc n) chunks ≡ [] = drop_all (suc n) chunks (omega (arith, some)) in
    let all = ap length is ∙ length-append (joined (take n chunks)) (get_or chunks n rows ++ joined (drop (suc n) chunks)) in
    let rest = length-append (get_or chunks n rows) (joined (drop (suc n) chunks)) in
    let zero_long : length (joined (drop (suc n) chunks)) ≡ 0 = ap (λ (l : List (List Entry)). length (joined l)) none in
    let same = ap length here in
    omega (arith, all, rest, zero_long, same)

pub ends_at_none : (end : Option (List ℕ)) → EndsAt end [] 0
ends_at_none None = refl
ends_at_none (Some key) = (omega arith, tt, tt)

-- ---- the rows between two places

-- in two chunks
apart : (front : List (List Entry)) (c : List Entry) (mid : List (List Entry)) (d : List Entry) (back : List (List Entry)) (p q : ℕ) → p ≤ length c → q ≤ length d
    → drop (length (joined front) + p) (take (length (joined (front ++ c ∷ mid)) + q) (joined (front ++ c ∷ (mid ++ d ∷ back)))) ≡ drop p c ++ (joined mid ++ take q d)
apart front c mid d back p q within within' =
    let a = joined front ++ (c ++ joined mid) in
    let all : joined (front ++ c ∷ (mid ++ d ∷ back)) ≡ a ++ (d ++ joined back) =
    joined-append front (c ∷ (mid ++ d ∷ back))
    ∙ ap (λ (l : List Entry). joined front ++ (c ++ l)) (joined-append mid (d ∷ back))
    ∙ ap (λ (l : List Entry). joined front ++ l) (sym (append_assoc c (joined mid) (d ++ joined back)))
    ∙ sym (append_assoc (joined front) (c ++ joined mid) (d ++ joined back)) in
    let until : joined (front ++ c ∷ mid) ≡ a = joined-append front (c ∷ mid) in
    let first : take (length (joined (front ++ c ∷ mid)) + q) (joined (front ++ c ∷ (mid ++ d ∷ back))) ≡ joined front ++ (c ++ (joined mid ++ take q d)) =
    ap₂ (λ (x y : List Entry). take (length x + q) y) until all
    ∙ take_over a (d ++ joined back) q
    ∙ ap (λ (l : List Entry). a ++ l) (take-append-le q d (joined back) within')
    ∙ append_assoc (joined front) (c ++ joined mid) (take q d)
    ∙ ap (λ (l : List Entry). joined front ++ l) (append_assoc c (joined mid) (take q d)) in
    ap (drop (length (joined front) + p)) first
    ∙ drop_over (joined front) (c ++ (joined mid ++ take q d)) p
    ∙ drop-append-le p c (joined mid ++ take q d) within

-- in one
inside : (front : List (List Entry)) (c : List Entry) (back : List (List Entry)) (p q : ℕ) → q ≤ length c
    → drop (length (joined front) + p) (take (length (joined front) + q) (joined (front ++ c ∷ back))) ≡ drop p (take q c)
inside front c back p q within =
    ap (λ (l : List Entry). drop (length (joined front) + p) (take (length (joined front) + q) l)) (joined-append front (c ∷ back))
    ∙ ap (drop (length (joined front) + p)) (take_over (joined front) (c ++ joined back) q ∙ ap (λ (l : List Entry). joined front ++ l) (take-append-le q c (joined back) within))
    ∙ drop_over (joined front) (take q c) p

take_grows : (chunks : List (List Entry)) (j i : ℕ) → j < i → j < length chunks → length (joined (take j chunks)) + length (get_or chunks j []) ≤ length (joined (take i chunks))
take_grows [] j i before within = absurd (omega arith)
take_grows (c ∷ chunks) j zero before within = absurd (omega arith)
take_grows (c ∷ chunks) zero (suc i) before within =
    let all = length-append c (joined (take i chunks)) in
    let g : 0 + length c ≤ length (c ++ joined (take i chunks)) = omega (arith, all) in g
take_grows (c ∷ chunks) (suc j) (suc i) before within =
    let here = length-append c (joined (take j chunks)) in
    let there = length-append c (joined (take i chunks)) in
    let rest = take_grows chunks j i (omega arith) (omega arith) in
    let g : length (c ++ joined (take j chunks)) + length (get_or chunks j []) ≤ length (c ++ joined (take i chunks)) = omega (arith, here, there, rest) in g

module _ (chunks : List (List Entry)) (from to : ℕ × ℕ) (f : IsPlace chunks from) (t : IsPlace chunks to) where
  pub between_apart : (here last : List Entry) → from.0 < to.0 → here ≡ get_or chunks from.0 here → last ≡ get_or chunks to.0 last
      → drop (rows_before chunks from) (take (rows_before chunks to) (joined chunks)) ≡ drop from.1 here ++ (joined (take (to.0 - (from.0 + 1)) (drop (from.0 + 1) chunks)) ++ take to.1 last)
  between_apart here last before h l =
      let i = from.0 in
      let j = to.0 in
      let n = j - suc i in
      let front = take i chunks in
      let c = get_or chunks i here in
      let rest = drop (suc i) chunks in
      let mid = take n rest in
      let d = get_or rest n last in
      let back = drop (suc n) rest in
      let some = length-drop_more chunks i j before t.0 in
      let parted : rest ≡ mid ++ d ∷ back = cut rest n last some in
      let all : chunks ≡ front ++ c ∷ (mid ++ d ∷ back) = cut chunks i here f.0 ∙ ap (λ (r : List (List Entry)). front ++ c ∷ r) parted in
      let until : take j chunks ≡ front ++ c ∷ mid =
      ap (take j) (all ∙ sym (append_assoc front (c ∷ mid) (d ∷ back)))
      ∙ take_at (front ++ c ∷ mid) (d ∷ back) j (omega (arith, length-append front (c ∷ mid), length-take-le i chunks (omega (arith, f.0)), length-take-le n rest (omega (arith, some)), before)) in
      let last_is : last ≡ d = l ∙ ap (λ k. get_or chunks k last) (omega (arith, before)) ∙ sym (get_or-drop (suc i) chunks n last) in
      let within : from.1 ≤ length c = omega (arith, f.1, ap length (same_default chunks i [] here f.0)) in
      let within' : to.1 ≤ length d = omega (arith, t.1, ap length last_is, ap length (same_default chunks j [] last t.0), ap length l) in
      let on : suc i ≡ i + 1 = omega arith in
      ap₂ (λ (x : List (List Entry)) (y : List Entry). drop (length (joined front) + from.1) (take (length (joined x) + to.1) y)) until (ap joined all)
      ∙ apart front c mid d back from.1 to.1 within within'
      ∙ ap₂ (λ (x y : List Entry). drop from.1 x ++ (joined mid ++ take to.1 y)) (sym h) (sym last_is)
      ∙ ap (λ k. drop from.1 here ++ (joined (take (j - k) (drop k chunks)) ++ take to.1 last)) on
    where
      same_default : (xs : List (List Entry)) (i : ℕ) (d e : List Entry) → i < length xs → get_or xs i d ≡ get_or xs i e
      same_default [] i d e l = absurd (omega arith)
      same_default (x ∷ xs) zero d e l = refl
      same_default (x ∷ xs) (suc i) d e l = same_default xs i d e (omega arith)

      length-drop_more : (xs : List (List Entry)) (i j : ℕ) → i < j → j < length xs → j - suc i < length (drop (suc i) xs)
      length-drop_more [] i j b l = absurd (omega arith)
      length-drop_more (x ∷ xs) i zero b l = absurd (omega arith)
      length-drop_more (x ∷ xs) zero (suc j) b l = let g : suc j - 1 < length xs = omega arith in g
      length-drop_more (x ∷ xs) (suc i) (suc j) b l = let rest = length-drop_more xs i j (omega arith) (omega arith) in omega (arith, rest)

  pub between_inside : (here : List Entry) → from.0 ≡ to.0 → here ≡ get_or chunks from.0 here
      → drop (rows_before chunks from) (take (rows_before chunks to) (joined chunks)) ≡ drop from.1 (take to.1 here)
  between_inside here same h =
      let i = from.0 in
      let front = take i chunks in
      let c = get_or chunks i here in
      let all : chunks ≡ front ++ c ∷ drop (suc i) chunks = cut chunks i here f.0 in
      let within : to.1 ≤ length c = omega (arith, t.1, ap (λ k. length (get_or chunks k [])) same, ap length (same_default chunks i [] here f.0)) in
      ap₂ (λ k (y : List Entry). drop (length (joined front) + from.1) (take (length (joined (take k chunks)) + to.1) y)) (sym same) (ap joined all)
      ∙ inside front c (drop (suc i) chunks) from.1 to.1 within
      ∙ ap (λ (x : List Entry). drop from.1 (take to.1 x)) (sym h)
    where
      same_default : (xs : List (List Entry)) (i : ℕ) (d e : List Entry) → i < length xs → get_or xs i d ≡ get_or xs i e
      same_default [] i d e l = absurd (omega arith)
      same_default (x ∷ xs) zero d e l = refl
      same_default (x ∷ xs) (suc i) d e l = same_default xs i d e (omega arith)

  pub between_none : to.0 < from.0 → drop (rows_before chunks from) (take (rows_before chunks to) (joined chunks)) ≡ []
  between_none behind = range_none (joined chunks) (rows_before chunks from) (rows_before chunks to)
      (omega (arith, take_grows chunks to.0 from.0 behind t.0, t.1))

-- ---- no rows

pub joined_some : (chunks : List (List Entry)) → NoneEmpty chunks → length (joined chunks) ≡ 0 → length chunks ≡ 0
joined_some [] some is = refl
joined_some (c ∷ chunks) some is = absurd (omega (arith, some.0, is, length-append c (joined chunks)))
