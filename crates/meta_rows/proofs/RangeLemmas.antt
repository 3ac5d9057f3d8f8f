-- Where a range of keys begins and ends among entries in order.
use Rattle.std.proofs.Common.{◌≡◌, ℕ, zero, suc, ◌+◌, ◌-◌, ◌<◌, ◌≤◌, Bool, true, false, cond, T, not, List, [], ◌∷◌, length, get_or, take, drop, Option, Some, None, refl, sym, ap, subst, ◌∙◌, arith}
use Rattle.std.specs.Prelude.{◌&&◌}
use Rattle.std.specs.List.{HoldsAt}
use Rattle.std.specs.List.Sorted.{IsPartitionPoint}
use Rattle.std.specs.Ordering.{is_lt, ordering_reverse}
use Rattle.std.specs.declared.cmp.Ordering.{Ordering}
use Rattle.std.specs.declared.cmp.Ordering.TheVariants.{Less, Equal, Greater}
use Rattle.std.specs.Cmp.Lexicographic.{nat_list_cmp_total}
use Rattle.std.specs.FinMap as map
use Rattle.std.specs.FinMap.{is_sorted, entries-from_sorted}
use Rattle.std.specs.FinMap.Entries.{where_key, below_all}
use Rattle.byte_maps.specs.ByteMap.{byte_order, in_range}
use Rattle.byte_maps.proofs.Prelude.{same_bytes, both_first, both_second, below_more}
use Rattle.meta_rows.specs.Prelude.{NoneBelow, is_from_to, rows_from_to, StartsAt, EndsAt, Rows}
use Rattle.meta_rows.proofs.PartLemmas.{less}
use Rattle.std.proofs.Math.Seq.{drop-nil, take-nil}
use Rattle.std.proofs.lemmas.List.{drop-take, take_all}

so : (b : Bool) → T b → b ≡ true
so true h = refl
so false h = absurd h

not_back : (o : Ordering) → T (is_lt o) → is_lt (ordering_reverse o) ≡ false
not_back Less h = refl
not_back Equal h = absurd h
not_back Greater h = absurd h

not_below : (key x : List ℕ) → T (is_lt (byte_order key x)) → is_lt (byte_order x key) ≡ false
not_below key x h = ap is_lt (nat_list_cmp_total.antisymm x key) ∙ not_back (byte_order key x) h

below : (key : List ℕ) (es : List (List ℕ × List ℕ)) (j : ℕ) (d : List ℕ × List ℕ) → T (below_all byte_order key es) → j < length es
    → T (is_lt (byte_order key (get_or es j d).0))
below key [] j d h l = absurd (omega arith)
below key (e ∷ es) zero d h l = both_first _ _ h
below key (e ∷ es) (suc j) d h l = below key es j d (both_second _ _ h) (omega arith)

module _ (key : List ℕ) where
  -- a search that ended between the lesser keys and the greater
  pub starts_between : (es : List (List ℕ × List ℕ)) (at : ℕ) → at ≤ length es → IsPartitionPoint (λ e. byte_order e.0 key ≡ Less) (λ e. byte_order e.0 key ≡ Greater) es at → StartsAt key es at
  starts_between [] zero h parted = (h, tt, tt)
  starts_between [] (suc j) h parted = absurd (omega arith)
  starts_between (e ∷ es) zero h parted =
      let later = starts_between es 0 (omega arith) (λ k d a b. absurd (omega arith), λ k d a b. parted.1 (suc k) d (omega arith) (omega arith)) in
      (h, tt, (ap is_lt (parted.1 0 e (omega arith) (omega arith)), later.2))
  starts_between (e ∷ es) (suc j) h parted =
      let later = starts_between es j (omega arith) (λ k d a b. parted.0 (suc k) d (omega arith) (omega arith), λ k d a b. parted.1 (suc k) d (omega arith) (omega arith)) in
      (h, (ap is_lt (parted.0 0 e (omega arith) (omega arith)), later.1), later.2)

  pub all_from : (es : List (List ℕ × List ℕ)) → T (below_all byte_order key es) → NoneBelow key es
  all_from [] h = tt
  all_from (e ∷ es) h = (not_below key e.0 (both_first _ _ h), all_from es (both_second _ _ h))

  -- a search that found the key
  pub starts_there : (es : List (List ℕ × List ℕ)) (at : ℕ) → T (is_sorted byte_order es) → at < length es → HoldsAt (λ e. byte_order e.0 key ≡ Equal) es at → StartsAt key es at
  starts_there [] at h l is = absurd (omega arith)
  starts_there (e ∷ es) zero h l is = (omega arith, tt, (ap is_lt (is e), all_from es (subst (λ (k : List ℕ). T (below_all byte_order k es)) (same_bytes e.0 key (is e)) (both_first _ _ h))))
  starts_there (e ∷ es) (suc j) h l is =
      let later : StartsAt key es j = starts_there es j (both_second _ _ h) (omega arith) (λ d. is d) in
      let less = subst (λ k. T (is_lt (byte_order e.0 k))) (same_bytes _ key (is e)) (below e.0 es j e (both_first _ _ h) (omega arith)) in
      (omega (arith, later.0), (so _ less, later.1), later.2)

  -- rows behind one that isn't below the key
  pub none_behind : (o : Ordering) (f : List ℕ × List ℕ) (es : List (List ℕ × List ℕ)) → byte_order f.0 key ≡ o → is_lt o ≡ false → T (below_all byte_order f.0 es)
      → NoneBelow key es
  none_behind Less f es is high h = absurd cc
  none_behind Equal f es is high h = all_from es (subst (λ (k : List ℕ). T (below_all byte_order k es)) (same_bytes f.0 key is) h)
  none_behind Greater f es is high h = all_from es (below_more key f.0 es (nat_list_cmp_total.antisymm key f.0 ∙ ap ordering_reverse is) h)

  -- and one before a row that is
  less_too : (x e : List ℕ) → T (is_lt (byte_order x e)) → is_lt (byte_order e key) ≡ true → is_lt (byte_order x key) ≡ true
  less_too x e p q = ap is_lt (nat_list_cmp_total.trans x e key (less _ (so _ p)) (less _ q))

  -- the last row below the key, and the one behind it
  pub starts_behind : (es : List (List ℕ × List ℕ)) (at : ℕ) (d : List ℕ × List ℕ) → T (is_sorted byte_order es) → suc at < length es
      → is_lt (byte_order (get_or es at d).0 key) ≡ true → is_lt (byte_order (get_or es (suc at) d).0 key) ≡ false → StartsAt key es (suc at)
  starts_behind [] at d h l low high = absurd (omega arith)
  starts_behind (e ∷ []) at d h l low high = absurd (omega arith)
  starts_behind (e ∷ f ∷ es) zero d h l low high =
      (omega arith, (low, tt), (high, none_behind (byte_order f.0 key) f es refl high (both_first _ _ (both_second _ _ h))))
  starts_behind (e ∷ f ∷ es) (suc j) d h l low high =
      let long : suc (suc j) ≤ length (e ∷ f ∷ es) = omega arith in
      let within : suc j < length (f ∷ es) = omega arith in
      let here : j < length (f ∷ es) = omega arith in
      let less_here = less_too e.0 (get_or (f ∷ es) j d).0 (below e.0 (f ∷ es) j d (both_first _ _ h) here) low in
      let later : StartsAt key (f ∷ es) (suc j) = starts_behind (f ∷ es) j d (both_second _ _ h) within low high in
      (long, (less_here, later.1), later.2)

-- what a test makes of an entry and of the rest
passed : (p : List ℕ → Bool) (e : List ℕ × List ℕ) (es left : List (List ℕ × List ℕ)) → p e.0 ≡ true → where_key byte_order p es ≡ left → where_key byte_order p (e ∷ es) ≡ e ∷ left
passed p e es left is rest = ap (λ b. cond b (e ∷ where_key byte_order p es) (where_key byte_order p es)) is ∙ ap (λ l. e ∷ l) rest

failed : (p : List ℕ → Bool) (e : List ℕ × List ℕ) (es left : List (List ℕ × List ℕ)) → p e.0 ≡ false → where_key byte_order p es ≡ left → where_key byte_order p (e ∷ es) ≡ left
failed p e es left is rest = ap (λ b. cond b (e ∷ where_key byte_order p es) (where_key byte_order p es)) is ∙ rest

two : (a b x y : Bool) → a ≡ x → b ≡ y → (not a && b) ≡ (not x && y)
two a b x y is then = ap (λ c. not c && b) is ∙ ap (λ c. not x && c) then

late : (a b : Bool) → b ≡ false → (not a && b) ≡ false
late true b is = refl
late false b is = is

-- the entries of a range are those from where its first key starts up to where its end starts
between : (first end : List ℕ) (es : List (List ℕ × List ℕ)) (from to : ℕ) → StartsAt first es from → StartsAt end es to
    → where_key byte_order (in_range first end) es ≡ drop from (take to es)
between first end [] from to a b = sym (ap (drop from) (take-nil to) ∙ drop-nil from)
between first end (e ∷ es) zero zero a b = failed _ e es _ (late _ _ b.2.0) (between first end es 0 0 (omega arith, tt, a.2.1) (omega arith, tt, b.2.1))
between first end (e ∷ es) zero (suc j) a b = passed _ e es _ (two _ _ _ _ a.2.0 b.1.0) (between first end es 0 j (omega arith, tt, a.2.1) (omega (arith, b.0), b.1.1, b.2))
between first end (e ∷ es) (suc i) zero a b =
    failed _ e es _ (late _ _ b.2.0) (between first end es i 0 (omega (arith, a.0), a.1.1, a.2) (omega arith, tt, b.2.1) ∙ drop-nil i)
between first end (e ∷ es) (suc i) (suc j) a b =
    failed _ e es _ (two _ _ _ _ a.1.0 b.1.0) (between first end es i j (omega (arith, a.0), a.1.1, a.2) (omega (arith, b.0), b.1.1, b.2))

-- and without an end those from where its first key starts
onwards : (first : List ℕ) (es : List (List ℕ × List ℕ)) (from : ℕ) → StartsAt first es from → where_key byte_order (is_from_to first None) es ≡ drop from es
onwards first [] from a = sym (drop-nil from)
onwards first (e ∷ es) zero a = passed _ e es _ (ap not a.2.0) (onwards first es 0 (omega arith, tt, a.2.1))
onwards first (e ∷ es) (suc i) a = failed _ e es _ (ap not a.1.0) (onwards first es i (omega (arith, a.0), a.1.1, a.2))

pub range_is : (first : List ℕ) (end : Option (List ℕ)) (es : List (List ℕ × List ℕ)) (from to : ℕ) → StartsAt first es from → EndsAt end es to
    → where_key byte_order (is_from_to first end) es ≡ drop from (take to es)
range_is first None es from to a b = onwards first es from a ∙ ap (drop from) (sym (take_all to es (omega (arith, b))))
range_is first (Some end) es from to a b = between first end es from to a b

-- the rows of a range, by where it begins and ends among the table's entries
pub range_rows : (rows : Rows) (es fs : List (List ℕ × List ℕ)) (first : List ℕ) (end : Option (List ℕ)) (from to : ℕ) → T (is_sorted byte_order es)
    → map.from_sorted {R = byte_order} es ≡ rows → fs ≡ es → StartsAt first fs from → EndsAt end fs to → rows_from_to rows first end ≡ drop from (take to fs)
range_rows rows es fs first end from to sorted is same a b =
    let p = is_from_to first end in
    ap (λ m. where_key byte_order p (map.entries m)) (sym is)
    ∙ ap (where_key byte_order p) (entries-from_sorted byte_order es sorted ∙ sym same)
    ∙ range_is first end fs from to a b

pub range_part : {A : Type 0} (xs : List A) (from to : ℕ) → from ≤ to → drop from (take to xs) ≡ take (to - from) (drop from xs)
range_part xs from to h = let sum : to ≡ from + (to - from) = omega arith in ap (λ n. drop from (take n xs)) sum ∙ drop-take from (to - from) xs

pub range_none : {A : Type 0} (xs : List A) (from to : ℕ) → to ≤ from → drop from (take to xs) ≡ []
range_none [] from to h = ap (drop from) (take-nil to) ∙ drop-nil from
range_none (x ∷ xs) from zero h = drop-nil from
range_none (x ∷ xs) zero (suc j) h = absurd (omega arith)
range_none (x ∷ xs) (suc i) (suc j) h = range_none xs i j (omega arith)

-- ---- a range that is gone through: what is left of its rows are those from a place on

-- one row more
pub left_more : (es : List (List ℕ × List ℕ)) (i : ℕ) (x : List ℕ × List ℕ) (rest : List (List ℕ × List ℕ)) → drop i es ≡ x ∷ rest
    → (i < length es) × (x ≡ get_or es i x) × (rest ≡ drop (i + 1) es)
left_more [] zero x rest is = absurd cc
left_more [] (suc i) x rest is = absurd cc
left_more (e ∷ es) zero x rest is =
    let on : 0 + 1 ≡ 1 = omega arith in
    (omega arith, sym (ap (λ (l : List (List ℕ × List ℕ)). get_or l 0 x) is), sym (ap (drop 1) is) ∙ ap (λ k. drop k (e ∷ es)) (sym on))
left_more (e ∷ es) (suc i) x rest is =
    let later = left_more es i x rest is in
    let on : suc i + 1 ≡ suc (i + 1) = omega arith in
    (omega (arith, later.0), later.1, later.2 ∙ ap (λ k. drop k (e ∷ es)) (sym on))

-- and none
pub left_none : (es : List (List ℕ × List ℕ)) (i : ℕ) → drop i es ≡ [] → length es ≤ i
left_none [] i is = omega arith
left_none (e ∷ es) zero is = absurd cc
left_none (e ∷ es) (suc i) is = omega (arith, left_none es i is)
