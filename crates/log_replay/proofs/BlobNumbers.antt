-- The greatest number of a shared blob is that of the last row of the range of their keys.
use Rattle.std.proofs.Common.{◌≡◌, ◌≢◌, ◌⊎◌, inl, inr, ℕ, ◌+◌, ◌*◌, ◌^◌, ◌<◌, ◌≤◌, Bool, true, false, cond, T, List, [], ◌∷◌, ◌++◌, length, drop, Option, Some, None, MatchOption, is_some, refl, sym, ap, subst, ◌∙◌, arith}
use Rattle.std.specs.Int.{w64, to_be_bytes}
use Rattle.std.specs.List.{AllByRecursion}
use Rattle.std.specs.Ordering.{nat_cmp, ordering_then, ordering_reverse, is_eq, is_lt, MatchOrdering}
use Rattle.std.specs.declared.cmp.Ordering.{Ordering}
use Rattle.std.specs.declared.cmp.Ordering.TheVariants.{Less, Equal, Greater}
use Rattle.std.specs.FinMap as map
use Rattle.std.specs.FinMap.{find, is_sorted}
use Rattle.std.specs.FinMap.Entries.{below_all, is_sorted-where_key, find-where_key}
use Rattle.std.proofs.lemmas.Cmp.{ranked, tied_itself, nat_list_cmp_total}
use Rattle.std.proofs.lemmas.Nat.{from_be_bytes-to_be_bytes_8}
use Rattle.byte_maps.specs.ByteMap.{byte_order, in_range}
use Rattle.byte_maps.proofs.Prelude.{same_bytes, both_first, both_second}
use Rattle.unit_fields.specs.declared.width.Width.{Width}
use Rattle.meta_rows.specs.Prelude.{Rows, Entry, rows_from_to}
use Rattle.meta_log.specs.declared.slot.Super.{Super}
use Rattle.meta_log.specs.Prelude.{width_of}
use Rattle.row_format.specs.Prelude.{shared_key, Row, collection, onode, shard, attribute, omap_header, omap_pair, blob, bitmap, row_key, FitsRow}
use Rattle.store_image.specs.Prelude.{NoBadRow}
use Rattle.log_replay.specs.Prelude.{HasBlob, IsLastBlob}

-- ---- the order of numbers, the highest byte first

-- the number that bytes are, behind one that stands for those before them
abbrev be_value : ℕ → List ℕ → ℕ
be_value high [] = high
be_value high (b ∷ bs) = be_value (256 * high + b) bs

abbrev AreBytes : List ℕ → Type 0
AreBytes xs = AllByRecursion (λ b. b < 256) xs

-- what comes first decides
higher : (m n : ℕ) (xs ys : List ℕ) → length xs ≡ length ys → AreBytes xs → m < n → be_value m xs < be_value n ys
higher m n [] [] long bytes less = less
higher m n [] (y ∷ ys) long bytes less = absurd (omega (arith, long))
higher m n (x ∷ xs) [] long bytes less = absurd (omega (arith, long))
higher m n (x ∷ xs) (y ∷ ys) long bytes less =
    higher (256 * m + x) (256 * n + y) xs ys (omega (arith, long)) bytes.1 (omega (arith, bytes.0, less))

ascends : (high : ℕ) (xs ys : List ℕ) → length xs ≡ length ys → AreBytes xs → byte_order xs ys ≡ Less → be_value high xs < be_value high ys
ascends high [] [] long bytes is = absurd cc
ascends high [] (y ∷ ys) long bytes is = absurd (omega (arith, long))
ascends high (x ∷ xs) [] long bytes is = absurd (omega (arith, long))
ascends high (x ∷ xs) (y ∷ ys) long bytes is =
    elim (nat_cmp x y) as (λ o. MatchOrdering o (x < y) (x ≡ y) (y < x) → ordering_then o (byte_order xs ys) ≡ Less
    → be_value high (x ∷ xs) < be_value high (y ∷ ys)) [
      | Less ↦ λ less e. higher (256 * high + x) (256 * high + y) xs ys (omega (arith, long)) bytes.1 (omega (arith, less))
      | Equal ↦ λ same e.
          subst (λ b. be_value (256 * high + x) xs < be_value (256 * high + b) ys) same (ascends (256 * high + x) xs ys (omega (arith, long)) bytes.1 e)
      | Greater ↦ λ more e. absurd cc
    ] (ranked x y (nat_cmp x y) refl) is

are_bytes : (n : ℕ) → AreBytes (to_be_bytes w64 n)
are_bytes n = (omega arith, (omega arith, (omega arith, (omega arith, (omega arith, (omega arith, (omega arith, (omega arith, tt))))))))

be_value_is : (n : ℕ) → n < 2 ^ 64 → be_value 0 (to_be_bytes w64 n) ≡ n
be_value_is n low = omega (arith, from_be_bytes-to_be_bytes_8 n low)

-- keys of shared blobs are in the order of their numbers
blobs_ascend : (m n : ℕ) → m < 2 ^ 64 → n < 2 ^ 64 → byte_order (shared_key m) (shared_key n) ≡ Less → m < n
blobs_ascend m n lm ln is =
    let less = ascends 0 (to_be_bytes w64 m) (to_be_bytes w64 n) refl
    (are_bytes m) is in
    omega (arith, less, be_value_is m lm, be_value_is n ln)

-- and each is of one
same_blob : (m n : ℕ) → m < 2 ^ 64 → n < 2 ^ 64 → shared_key m ≡ shared_key n → m ≡ n
same_blob m n lm ln is = sym (be_value_is m lm) ∙ ap (λ k. be_value 0 (drop 1 k)) is ∙ be_value_is n ln

-- ---- the last row of a range

below_last : (x e : Entry) (es : List Entry) → T (below_all byte_order x.0 (es ++ e ∷ [])) → byte_order x.0 e.0 ≡ Less
below_last x e [] below = less (byte_order x.0 e.0) (both_first _ _ below)
  where
    less : (r : Ordering) → T (is_lt r) → r ≡ Less
    less Less h = refl
    less Equal h = absurd h
    less Greater h = absurd h
below_last x e (f ∷ es) below = below_last x e es (both_second _ _ below)

-- a key that isn't below the last one isn't found before it
found_last : (q : List ℕ) (e : Entry) (es : List Entry) → T (is_sorted byte_order (es ++ e ∷ [])) → (byte_order e.0 q ≡ Less) ⊎ (q ≡ e.0)
    → find byte_order q (es ++ e ∷ []) ≡ find byte_order q (e ∷ [])
found_last q e [] sorted high = refl
found_last q e (x ∷ es) sorted high =
    ap (λ (r : Ordering). cond (is_eq r) (Some x.1) (find byte_order q (es ++ e ∷ []))) behind ∙ found_last q e es (both_second _ _ sorted) high
  where
    before : byte_order x.0 e.0 ≡ Less
    before = below_last x e es (both_first _ _ sorted)

    below : byte_order x.0 q ≡ Less
    below = elim high [
      | inl less ↦ nat_list_cmp_total.trans x.0 e.0 q before less
      | inr same ↦ ap (byte_order x.0) same ∙ before
    ]

    behind : byte_order q x.0 ≡ Greater
    behind = nat_list_cmp_total.antisymm q x.0 ∙ ap ordering_reverse below

-- ---- the keys of shared blobs

-- whether a key lies among them
abbrev is_in_blobs : List ℕ → Bool
is_in_blobs key = in_range (0x58 ∷ []) (0x59 ∷ []) key

-- the rows under them
abbrev blob_rows : Rows → List Entry
blob_rows rows = rows_from_to rows (0x58 ∷ []) (Some (0x59 ∷ []))

finds_there : (rows : Rows) (q : List ℕ) → find byte_order q (blob_rows rows) ≡ cond (is_in_blobs q) (map.get rows q) None
finds_there rows q =
    find-where_key byte_order is_in_blobs q (λ x t. ap is_in_blobs (sym (same_bytes q x t))) (map.entries rows)
    ∙ ap (λ (o : Option (List ℕ)). cond (is_in_blobs q) o None) (sym (map.get-entries rows q))

-- what isn't found there has no row
not_there : (rows : Rows) (sbid : ℕ) → find byte_order (shared_key sbid) (blob_rows rows) ≡ None → ¬ HasBlob rows sbid
not_there rows sbid none has =
    let nothing : map.get rows (shared_key sbid) ≡ None = sym (finds_there rows (shared_key sbid)) ∙ none in
    absurd (let e : false ≡ true = sym (ap is_some nothing) ∙ has.1 in cc)

-- nothing is read where there is no such row
pub none_read : (rows : Rows) (es : List Entry) (read : Option ℕ) → es ≡ blob_rows rows → es ≡ [] → read ≡ None
    → MatchOption read ((sbid : ℕ) → ¬ HasBlob rows sbid) (IsLastBlob rows)
none_read rows es read lent none is =
    subst (λ o. MatchOption o ((sbid : ℕ) → ¬ HasBlob rows sbid) (IsLastBlob rows)) (sym is) (λ sbid.
    not_there rows sbid (ap (find byte_order (shared_key sbid)) (sym lent ∙ none)))

-- a row of the table under such a key is one of a blob
blob_row : (w : Width) (a : Row) → FitsRow w a → is_in_blobs (row_key a) ≡ true → (sbid : ℕ) × (sbid < 2 ^ 64) × (row_key a ≡ shared_key sbid)
blob_row w (blob sbid first slots) fits is = (sbid, fits.number, refl)
blob_row w row fits is = absurd cc

-- a value that is left by a test
cut : (b : Bool) (o : Option (List ℕ)) (v : List ℕ) → cond b o None ≡ Some v → (b ≡ true) × (o ≡ Some v)
cut true o v e = (refl, e)
cut false o v e = absurd cc

module _ (s : Super) (rows : Rows) (good : NoBadRow s rows) (es : List Entry) (e : Entry) (is : blob_rows rows ≡ es ++ e ∷ []) where
  sorted : T (is_sorted byte_order (es ++ e ∷ []))
  sorted =
      subst (λ (l : List Entry). T (is_sorted byte_order l)) is (is_sorted-where_key byte_order is_in_blobs (map.entries rows) (map.entries_sorted rows))

  finds : (q : List ℕ) → (byte_order e.0 q ≡ Less) ⊎ (q ≡ e.0) → find byte_order q (blob_rows rows) ≡ find byte_order q (e ∷ [])
  finds q high = ap (find byte_order q) is ∙ found_last q e es sorted high

  here : (is_in_blobs e.0 ≡ true) × (map.get rows e.0 ≡ Some e.1)
  here =
      let own : find byte_order e.0 (e ∷ []) ≡ Some e.1 = ap (λ (r : Ordering). cond (is_eq r) (Some e.1) None) (tied_itself nat_list_cmp_total e.0) in
      cut (is_in_blobs e.0) (map.get rows e.0) e.1 (sym (finds_there rows e.0) ∙ finds e.0 (inr refl) ∙ own)

  named : (sbid : ℕ) × (sbid < 2 ^ 64) × (e.0 ≡ shared_key sbid)
  named =
      let found = good e.0 e.1 here.1 in
      let row = blob_row (width_of s) found.row found.fits (subst (λ k. is_in_blobs k ≡ true) found.key_is here.0) in
      (row.0, row.1, found.key_is ∙ row.2)

  none_behind : (other : ℕ) → HasBlob rows other → byte_order e.0 (shared_key other) ≢ Less
  none_behind other has less =
      let behind : byte_order (shared_key other) e.0 ≡ Greater = nat_list_cmp_total.antisymm (shared_key other) e.0 ∙ ap ordering_reverse less in
      not_there rows other (finds (shared_key other) (inl less) ∙ ap (λ (r : Ordering). cond (is_eq r) (Some e.1) None) behind) has

  at_most : (other : ℕ) → HasBlob rows other → other ≤ named.0
  at_most other has =
      elim (byte_order (shared_key named.0) (shared_key other)) as (λ r. byte_order (shared_key named.0) (shared_key other) ≡ r → other ≤ named.0) [
        | Less ↦ λ o. absurd (none_behind other has (ap (λ k. byte_order k (shared_key other)) named.2 ∙ o))
        | Equal ↦ λ o.
            let same = same_blob named.0 other named.1 has.0 (same_bytes (shared_key named.0) (shared_key other) o) in
            omega (arith, same)
        | Greater ↦ λ o.
            let less : byte_order (shared_key other) (shared_key named.0) ≡ Less =
            nat_list_cmp_total.antisymm (shared_key other) (shared_key named.0) ∙ ap ordering_reverse o in
            omega (arith, blobs_ascend other named.0 has.0 named.1 less)
      ] refl

  is_last : IsLastBlob rows named.0
  is_last = record {
    has = (named.1, ap is_some (ap (map.get rows) (sym named.2) ∙ here.1));
    last = at_most;
  }

  -- what is read in the last key is the greatest number
  pub last_read : (key : List ℕ) (read : Option ℕ) → key ≡ e.0 → ((sbid : ℕ) → sbid < 2 ^ 64 → key ≡ shared_key sbid → read ≡ Some sbid)
      → MatchOption read ((sbid : ℕ) → ¬ HasBlob rows sbid) (IsLastBlob rows)
  last_read key read own reads =
      subst (λ o. MatchOption o ((sbid : ℕ) → ¬ HasBlob rows sbid) (IsLastBlob rows)) (sym (reads named.0 named.1 (own ∙ named.2))) is_last
