-- The operations of a plan take few bytes in a record: a difference drops rows that are there, and sets few keys, each once.
use Rattle.std.proofs.Common.{◌≡◌, ◌≢◌, ◌⊎◌, inl, inr, ℕ, suc, ◌+◌, ◌*◌, ◌≤◌, Bool, true, false, cond, List, [], ◌∷◌, ◌++◌, length, map, Option, Some, None, is_some, refl, sym, ap, subst, ◌∙◌, arith, length-append}
use Rattle.std.specs.Prelude.{sum_by, take, unwrap_or}
use Rattle.std.specs.Option.{option_map}
use Rattle.std.specs.List.{AllByRecursion, flat_map}
use Rattle.std.specs.Int.{w16, w64, to_le_bytes}
use Rattle.std.specs.Ordering.{nat_cmp}
use Rattle.std.specs.declared.cmp.Ordering.TheVariants.{Less}
use Rattle.std.specs.FinMap as finite
use Rattle.std.proofs.lemmas.Bool.{cases_Bool}
use Rattle.std.proofs.lemmas.List.{length-map, length-take, take_all}
use Rattle.std.proofs.lemmas.List.Sums.{sum_by-cons}
use Rattle.byte_maps.specs.ByteMap.{byte_order, in_range}
use Rattle.byte_maps.specs.Totals.{share}
use Rattle.meta_rows.specs.Prelude.{Rows, rows_after, rows_size, key_of, key_bytes, value_bytes, op_bytes, ops_bytes, IsKey}
use Rattle.meta_rows.specs.declared.row_op.RowOp.{RowOp}
use Rattle.meta_rows.specs.declared.row_op.RowOp.TheVariants.{Set, Drop, Flip}
use Rattle.meta_rows.proofs.RowLemmas.{entry_size, get-remove_other, size-remove}
use Rattle.meta_log.specs.declared.slot.Super.{Super}
use Rattle.meta_log.specs.Prelude.{width_of}
use Rattle.object_model.specs.declared.op.Op.{Op}
use Rattle.object_model.specs.declared.op.Op.TheVariants.{Remove, SetAttr, RmAttr, RmAttrs, OmapSet, OmapRm, OmapRmRange, OmapClear, OmapHeader}
use Rattle.object_model.specs.declared.op.Pair.{Pair}
use Rattle.object_model.specs.Prelude.{is_same, payload_of, payload_of_pairs, object_limit}
use Rattle.unit_fields.specs.Prelude.{IsName}
use Rattle.row_format.specs.Prelude.{coll_key, onode_key, shard_key, attr_key, header_key, omap_key, Extent, Place}
use Rattle.store_image.specs.Prelude.{HasKey}
use Rattle.blob_map.specs.Prelude.{FitsPlace, with_pages}
use Rattle.plan_drafts.specs.Prelude.{Held, Changes, KeysAscend, Layout, HasLayout, or_empty, size_at, GetsShards, stay, cut, extents_at, ValueKey, attribute, header, pair, value_key, value_in, is_among, value_after, object_of, CollDraft, with_op, with_ops, draft_after, IsTaken, AreTaken, draft_of, Begins, laid, laid_at, place_put, IsKeyOfColl, IsKeyOfDraft, values_on}
use Rattle.extent_shards.specs.Prelude.{shards_of, shard_limit, first_of}
use Rattle.extent_shards.proofs.Openings.{IsOneOf, at_is_one}
use Rattle.plan_proofs.proofs.Difference.{SaysAfter, said_after, less_apart}
use Rattle.plan_proofs.proofs.Drafted.{AreDrafted}
use Rattle.plan_proofs.proofs.DraftRows.{now_most, now_good, now_fits}
use Rattle.object_rows.proofs.GoodPages.{IsGoodPage}
use Rattle.plan_proofs.proofs.Lengths.{few_shards}
use Rattle.plan_proofs.proofs.Maps.{layout_most, layout_fit, layout_ascend, layout_within}
use Rattle.plan_proofs.proofs.Fits.{key_fits, cut_at, value_is_short, blob_long}
use Rattle.plan_proofs.proofs.Names.{same_is}

-- ---- keys in lists

-- the key is one of these
abbrev IsIn : List ℕ → List (List ℕ) → Type 0
IsIn k [] = ⊥
IsIn k (x ∷ xs) = (k ≡ x) ⊎ IsIn k xs

in_left : (k : List ℕ) (xs ys : List (List ℕ)) → IsIn k xs → IsIn k (xs ++ ys)
in_left k [] ys is = absurd is
in_left k (x ∷ xs) ys (inl same) = inl same
in_left k (x ∷ xs) ys (inr later) = inr (in_left k xs ys later)

in_right : (k : List ℕ) (xs ys : List (List ℕ)) → IsIn k ys → IsIn k (xs ++ ys)
in_right k [] ys is = is
in_right k (x ∷ xs) ys is = inr (in_right k xs ys is)

-- the others of the keys, one fewer
record Without (k : List ℕ) (ks : List (List ℕ)) : Type 0 where
  rest : List (List ℕ)
  fewer : length ks ≡ suc (length rest)
  others : (other : List ℕ) → k ≢ other → IsIn other ks → IsIn other rest

without : (k : List ℕ) (ks : List (List ℕ)) → IsIn k ks → Without k ks
without k [] is = absurd is
without k (x ∷ xs) (inl same) = record {
  rest = xs;
  fewer = refl;
  others = λ other apart is. elim is [ inl too ↦ absurd (apart (same ∙ sym too)) | inr later ↦ later ];
}
without k (x ∷ xs) (inr later) =
    let w = without k xs later in
    record {
      rest = x ∷ w.rest;
      fewer = ap suc w.fewer;
      others = λ other apart is. elim is [ inl same ↦ inl same | inr behind ↦ inr (w.others other apart behind) ];
    }

-- ---- what counts

-- the value takes the place of one that is as long
record TakesPlace (olds : Rows) (key value : List ℕ) : Type 0 where
  old : List ℕ
  stood : finite.get olds key ≡ Some old
  long : length value ≡ length old

-- the operation sets one of these keys, in few bytes, or sets or drops a row that is there, with a value that is as long
abbrev IsCounted : List (List ℕ) → Rows → RowOp → Type 0
IsCounted keys olds (Set key value) = (IsIn key keys × (length (op_bytes (Set key value)) ≤ 66566)) ⊎ TakesPlace olds key value
IsCounted keys olds (Drop key) = HasKey olds key
IsCounted keys olds (Flip key mask) = ⊥

-- rows without one of them
size_without : (rows : Rows) (key value : List ℕ) → finite.get rows key ≡ Some value
    → rows_size rows ≡ entry_size key value + rows_size (finite.remove rows key)
size_without rows key value is = omega (arith, size-remove rows key, ap (share entry_size key) is)

value_at : (x : Option (List ℕ)) → is_some x ≡ true → (v : List ℕ) × (x ≡ Some v)
value_at None is = absurd cc
value_at (Some v) is = (v, refl)

module _ (key : List ℕ) where
  without_key : (keys : List (List ℕ)) (w : Without key keys) (olds : Rows) (ops : List RowOp)
      → AllByRecursion (λ later. byte_order key (key_of later) ≡ Less) ops → AllByRecursion (IsCounted keys olds) ops
      → AllByRecursion (IsCounted w.rest olds) ops
  without_key keys w olds [] behind all = tt
  without_key keys w olds (Set k v ∷ ops) behind all = (
    elim all.0 [ inl new ↦ inl (w.others k (less_apart key k behind.0) new.0, new.1) | inr was ↦ inr was ],
    without_key keys w olds ops behind.1 all.1,
  )
  without_key keys w olds (Drop k ∷ ops) behind all = (all.0, without_key keys w olds ops behind.1 all.1)
  without_key keys w olds (Flip k m ∷ ops) behind all = absurd all.0

  without_row : (keys : List (List ℕ)) (olds : Rows) (ops : List RowOp) → AllByRecursion (λ later. byte_order key (key_of later) ≡ Less) ops
      → AllByRecursion (IsCounted keys olds) ops → AllByRecursion (IsCounted keys (finite.remove olds key)) ops
  without_row keys olds [] behind all = tt
  without_row keys olds (Set k v ∷ ops) behind all = (
    elim all.0 [
      | inl new ↦ inl new
      | inr was ↦ inr (record { old = was.old; stood = get-remove_other olds key k (less_apart key k behind.0) ∙ was.stood; long = was.long })
    ],
    without_row keys olds ops behind.1 all.1,
  )
  without_row keys olds (Drop k ∷ ops) behind all =
      (ap is_some (get-remove_other olds key k (less_apart key k behind.0)) ∙ all.0, without_row keys olds ops behind.1 all.1)
  without_row keys olds (Flip k m ∷ ops) behind all = absurd all.0

length-set_op : (key value : List ℕ) → length (op_bytes (Set key value)) ≡ entry_size key value
length-set_op key value = omega (arith, length-append (key_bytes key) (value_bytes value))

length-drop_op : (key : List ℕ) → length (op_bytes (Drop key)) ≡ 3 + length key
length-drop_op key = omega (arith, length-append (to_le_bytes w16 (length key)) key)

counted : (ops : List RowOp) (keys : List (List ℕ)) (olds : Rows) → KeysAscend ops → AllByRecursion (IsCounted keys olds) ops
    → length (ops_bytes ops) ≤ 66566 * length keys + rows_size olds
counted [] keys olds order all = omega arith
counted (Set key value ∷ ops) keys olds order all = elim all.0 [
  | inl new ↦
      let w = without key keys new.0 in
      omega (
        arith,
        length-append (op_bytes (Set key value)) (ops_bytes ops),
        new.1,
        w.fewer,
        counted ops w.rest olds order.1 (without_key key keys w olds ops order.0 all.1),
      )
  | inr was ↦ omega (
    arith,
    length-append (op_bytes (Set key value)) (ops_bytes ops),
    length-set_op key value,
    was.long,
    size_without olds key was.old was.stood,
    counted ops keys (finite.remove olds key) order.1 (without_row key keys olds ops order.0 all.1),
  )
]
counted (Drop key ∷ ops) keys olds order all =
    let found = value_at (finite.get olds key) all.0 in
    omega (
      arith,
      length-append (op_bytes (Drop key)) (ops_bytes ops),
      length-drop_op key,
      size_without olds key found.0 found.1,
      counted ops keys (finite.remove olds key) order.1 (without_row key keys olds ops order.0 all.1),
    )
counted (Flip key mask ∷ ops) keys olds order all = absurd all.0

-- ---- the keys that operations may set

-- those of values
abbrev value_keys : List ℕ → Op → List (List ℕ)
value_keys c (SetAttr o name value) = attr_key c o name ∷ []
value_keys c (OmapSet o pairs) = map (λ p. omap_key c o p.key) pairs
value_keys c (OmapHeader o value) = header_key c o ∷ []
value_keys c op = []

unless : (b : Bool) (old : Option (List ℕ)) (value : List ℕ) → cond b None old ≡ Some value → old ≡ Some value
unless true old value is = absurd cc
unless false old value is = is

from_pairs : (c o : List ℕ) (pairs : List Pair) (key : List ℕ) (old : Option (List ℕ)) (value : List ℕ) → value_in pairs key old ≡ Some value
    → (old ≡ Some value) ⊎ IsIn (omap_key c o key) (map (λ p. omap_key c o p.key) pairs)
from_pairs c o [] key old value is = inl is
from_pairs c o (p ∷ ps) key old value is = elim (from_pairs c o ps key (cond (is_same p.key key) (Some p.value) old) value is) [
  | inr later ↦ inr (inr later)
  | inl kept ↦ elim (cases_Bool (is_same p.key key)) [
    | inl same ↦ inr (inl (ap (omap_key c o) (sym (same_is p.key key same))))
    | inr other ↦ inl (sym (ap (λ b. cond b (Some p.value) old) other) ∙ kept)
  ]
]

-- a value after an operation stood there, or it is under one of its keys
stood_or_set : (c : List ℕ) (op : Op) (k : ValueKey) (old : Option (List ℕ)) (value : List ℕ) → value_after op k old ≡ Some value
    → (old ≡ Some value) ⊎ IsIn (value_key c (object_of op) k) (value_keys c op)
stood_or_set c (Remove o) k old value is = absurd cc
stood_or_set c (SetAttr o name v) (attribute n) old value is = elim (cases_Bool (is_same name n)) [
  | inl same ↦ inr (inl (ap (attr_key c o) (sym (same_is name n same))))
  | inr other ↦ inl (sym (ap (λ b. cond b (Some v) old) other) ∙ is)
]
stood_or_set c (RmAttr o name) (attribute n) old value is = inl (unless (is_same name n) old value is)
stood_or_set c (RmAttrs o) (attribute n) old value is = absurd cc
stood_or_set c (OmapSet o pairs) (pair key) old value is = from_pairs c o pairs key old value is
stood_or_set c (OmapRm o keys) (pair key) old value is = inl (unless (is_among keys key) old value is)
stood_or_set c (OmapRmRange o first last) (pair key) old value is = inl (unless (in_range first last key) old value is)
stood_or_set c (OmapClear o) header old value is = absurd cc
stood_or_set c (OmapClear o) (pair key) old value is = absurd cc
stood_or_set c (OmapHeader o v) header old value is = inr (inl refl)
stood_or_set c op k old value is = inl is

module _ (c : List ℕ) (openings : List ℕ → List ℕ) where
  -- those of the shards of an object that begin at these pages, as far as it may have so many
  abbrev shard_keys : List ℕ → List (List ℕ)
  shard_keys o = map (shard_key c o) (take 32768 (openings o))

  -- with those of its object
  abbrev set_keys : Op → List (List ℕ)
  set_keys op = onode_key c (object_of op) ∷ (shard_keys (object_of op) ++ value_keys c op)

  abbrev all_keys : List Op → List (List ℕ)
  all_keys ops = flat_map set_keys ops

  -- an object that is in none of the operations stays as it was
  abbrev HasBoth : List ℕ → List Op → Type 0
  HasBoth o ops = IsIn (onode_key c o) (all_keys ops) × ((key : List ℕ) → IsIn key (shard_keys o) → IsIn key (all_keys ops))

  own_shards : (o key : List ℕ) (op : Op) → o ≡ object_of op → IsIn key (shard_keys o) → IsIn key (set_keys op)
  own_shards o key op e is = inr (in_left key (shard_keys (object_of op)) (value_keys c op) (subst (λ u. IsIn key (shard_keys u)) e is))

  object_keys : (ops : List Op) (d : CollDraft) (o : List ℕ) → HasBoth o ops ⊎ ((with_ops ops d).layout o ≡ d.layout o)
  object_keys [] d o = inr refl
  object_keys (op ∷ ops) d o = elim (cases_Bool (is_same o (object_of op))) [
    | inl same ↦ let e = same_is o (object_of op) same in
        inl (inl (ap (onode_key c) e), λ key is. in_left key (set_keys op) (all_keys ops) (own_shards o key op e is))
    | inr other ↦ elim (object_keys ops (with_op op d) o) [
      | inl both ↦ inl (
        in_right (onode_key c o) (set_keys op) (all_keys ops) both.0,
        λ key is. in_right key (set_keys op) (all_keys ops) (both.1 key is),
      )
      | inr still ↦ inr (still ∙ ap (λ b. cond b (draft_after op d) (d.layout o)) other)
    ]
  ]

  -- and so does a value
  stood_or_among : (ops : List Op) (d : CollDraft) (o : List ℕ) (k : ValueKey) (value : List ℕ) → (with_ops ops d).value o k ≡ Some value
      → (d.value o k ≡ Some value) ⊎ IsIn (value_key c o k) (all_keys ops)
  stood_or_among [] d o k value is = inl is
  stood_or_among (op ∷ ops) d o k value is = elim (stood_or_among ops (with_op op d) o k value is) [
    | inr later ↦ inr (in_right (value_key c o k) (set_keys op) (all_keys ops) later)
    | inl at ↦ elim (cases_Bool (is_same o (object_of op))) [
      | inl same ↦ own (same_is o (object_of op) same)
          (sym (ap (λ b. cond b (values_on op d k) (d.value o k)) same) ∙ as_choice (is_same o (object_of op)) ∙ at)
      | inr other ↦ inl (sym (ap (λ b. cond b (values_on op d k) (d.value o k)) other)
          ∙ as_choice (is_same o (object_of op)) ∙ at)
    ]
  ]
    where
      as_choice : (b : Bool) → cond b (values_on op d k) (d.value o k)
          ≡ cond b (values_on op d) (d.value o) k
      as_choice true = refl
      as_choice false = refl

      own : o ≡ object_of op → values_on op d k ≡ Some value
          → (d.value o k ≡ Some value) ⊎ IsIn (value_key c o k) (set_keys op ++ all_keys ops)
      own e is = elim (stood_or_set c op k (d.value (object_of op) k) value is) [
        | inl stood ↦ inl (ap (λ u. d.value u k) e ∙ stood)
        | inr set ↦ inr (subst (λ u. IsIn (value_key c u k) (set_keys op ++ all_keys ops)) (sym e)
            (in_left (value_key c (object_of op) k) (set_keys op) (all_keys ops)
            (inr (in_right (value_key c (object_of op) k) (shard_keys (object_of op)) (value_keys c op) set))))
      ]

  -- ---- there are few

  many_pairs : (pairs : List Pair) → AllByRecursion (λ p. IsName p.key) pairs → length pairs ≤ payload_of_pairs pairs
  many_pairs [] named = omega arith
  many_pairs (p ∷ ps) named =
      omega (arith, named.0.not_empty, many_pairs ps named.1, sum_by-cons (λ (p : Pair). length p.key + length p.value) p ps)

  few_values : (op : Op) (d : CollDraft) → IsTaken d op → length (value_keys c op) ≤ 1 + payload_of op
  few_values (SetAttr o name value) d taken = omega arith
  few_values (OmapSet o pairs) d taken = omega (arith, length-map pairs (λ (p : Pair). omap_key c o p.key), many_pairs pairs taken.names)
  few_values (OmapHeader o value) d taken = omega arith
  few_values op d taken = omega arith

  few_shard_keys : (o : List ℕ) → length (shard_keys o) ≤ 32768
  few_shard_keys o = omega (arith, length-map (take 32768 (openings o)) (shard_key c o), length-take 32768 (openings o))

  few_keys : (ops : List Op) (d : CollDraft) → AreTaken ops d → length (all_keys ops) ≤ 32770 * length ops + sum_by payload_of ops
  few_keys [] d taken = omega arith
  few_keys (op ∷ ops) d taken = omega (
    arith,
    length-append (set_keys op) (all_keys ops),
    length-append (shard_keys (object_of op)) (value_keys c op),
    few_shard_keys (object_of op),
    few_values op d taken.0,
    few_keys ops (with_op op d) taken.1,
    sum_by-cons payload_of op ops,
  )

-- ---- a difference

no_entries : {X : Type 0} (es : List X) → length es ≡ 0 → es ≡ []
no_entries [] is = refl
no_entries (e ∷ es) is = absurd (omega (arith, is))

-- an object of which nothing was put has the layout that it had
laid_first : (units : List ℕ) (held : Held) (l : Layout) → laid units held (draft_of l) ≡ l
laid_first units held l =
    let empty : finite.FinMap nat_cmp ℕ = finite.empty in
    let none : finite.entries empty ≡ [] = no_entries (finite.entries empty) (sym (finite.len-entries empty) ∙ finite.len-empty nat_cmp ℕ) in
    ap (λ (es : List (ℕ × ℕ)). record { size = l.size; pages = with_pages l.pages (map (λ (p : ℕ × ℕ). (p.0, place_put units held p.1)) es) }) none

module _ (s : Super) (rows : Rows) (ops : List RowOp) (c : List ℕ) (layouts : List ℕ → Option Layout) (units : List ℕ) (held : Held)
    (todo : List Op) (start : CollDraft) (begins : Begins (width_of s) rows c layouts start)
    (a : AreDrafted s rows (rows_after rows ops) c layouts units held (with_ops todo start)) where
  abbrev y : CollDraft
  y = with_ops todo start

  -- the pages where an object's shards begin, if its map is cut anew
  abbrev openings : List ℕ → List ℕ
  openings o = map first_of (shards_of (width_of s) (Some shard_limit) (extents_at (laid_at units held y o)))

  abbrev keys : List (List ℕ)
  keys = coll_key c ∷ all_keys c openings todo

  all_openings : (o : List ℕ) → IsName o → take 32768 (openings o) ≡ openings o
  all_openings o name = take_all 32768 (openings o) (omega (
    arith,
    length-map (shards_of (width_of s) (Some shard_limit) (extents_at (laid_at units held y o))) first_of,
    few_shards (width_of s) (Some shard_limit) (extents_at (laid_at units held y o)) (unwrap_or (size_at (laid_at units held y o)) 0)
        (layout_most s (laid_at units held y o) most good its) (layout_ascend s (laid_at units held y o) most good its)
        (layout_within s (laid_at units held y o) most good its) (layout_fit s (laid_at units held y o) most good its),
  ))
    where
      most : (or_empty (laid_at units held y o)).size ≤ object_limit
      most = now_most s rows (rows_after rows ops) c layouts units held y a o name

      good : (page : ℕ) (place : Place) → finite.get (or_empty (laid_at units held y o)).pages page ≡ Some place
          → IsGoodPage s (or_empty (laid_at units held y o)).size page place
      good page place is = now_good s rows (rows_after rows ops) c layouts units held y a o name page place is

      its : (page : ℕ) (place : Place) → finite.get (or_empty (laid_at units held y o)).pages page ≡ Some place → FitsPlace (width_of s) place
      its page place is = now_fits s rows (rows_after rows ops) c layouts units held y a o name page place is

  is_opening : (shards : List (List Extent)) (es : List Extent) → IsOneOf shards es → (o : List ℕ)
      → IsIn (shard_key c o (first_of es)) (map (shard_key c o) (map first_of shards))
  is_opening [] es one o = absurd one
  is_opening (s ∷ shards) es (inl e) o = inl (ap (λ z. shard_key c o (first_of z)) (sym e))
  is_opening (s ∷ shards) es (inr later) o = inr (is_opening shards es later o)

  layout_same : (o : List ℕ) → IsName o → y.layout o ≡ start.layout o → layouts o ≡ laid_at units held y o
  layout_same o name still = by (layouts o) (begins.drafts o name)
    where
      by : (x : Option Layout) → start.layout o ≡ option_map draft_of x → x ≡ laid_at units held y o
      by None e = sym (ap (option_map (laid units held)) (still ∙ e))
      by (Some l) e = sym (ap (option_map (laid units held)) (still ∙ e) ∙ ap (λ (z : Layout). Some z) (laid_first units held l))

  -- the onode said how long the object was
  onode_had : (o : List ℕ) → IsName o → finite.get rows (onode_key c o) ≡ option_map (to_le_bytes w64) (size_at (layouts o))
  onode_had o name = by (layouts o) (begins.has o name)
    where
      by : (l : Option Layout) → HasLayout (width_of s) rows c o l → finite.get rows (onode_key c o) ≡ option_map (to_le_bytes w64) (size_at l)
      by None none = none
      by (Some l) has = has.0.stands

  -- a key under which a value comes is among them
  set_in : (key value : List ℕ) → IsKeyOfColl c key → finite.get (rows_after rows ops) key ≡ Some value → ¬ (finite.get rows key ≡ Some value)
      → IsIn key keys
  set_in key value (inl e) is not = inl e
  set_in key value (inr (o, name, inl (inl e))) is not = elim (object_keys c openings todo start o) [
    | inl both ↦ inr (subst (λ k. IsIn k (all_keys c openings todo)) (sym e) both.0)
    | inr still ↦ absurd (not (ap (finite.get rows) e ∙ onode_had o name ∙ ap (λ z. option_map (to_le_bytes w64) (size_at z)) (layout_same o name still)
        ∙ sym (a.gets.objects o name).onode ∙ sym (ap (finite.get (rows_after rows ops)) e) ∙ is))
  ]
  set_in key value (inr (o, name, inl (inr p))) is not = by (a.gets.objects o name).shards
    where
      by : GetsShards (width_of s) rows (rows_after rows ops) c o (or_empty (layouts o)).pages (or_empty (laid_at units held y o)).pages → IsIn key keys
      by (stay eq same) = absurd (not (ap (finite.get rows) p.2 ∙ sym (same p.0 p.1) ∙ sym (ap (finite.get (rows_after rows ops)) p.2) ∙ is))
      by (cut apart are) = elim (object_keys c openings todo start o) [
        | inl both ↦
            let found = cut_at s rows ops c layouts units held y a o name p.0 p.1 value (sym (ap (finite.get (rows_after rows ops)) p.2) ∙ is) are in
            let shards = shards_of (width_of s) (Some shard_limit) (extents_at (laid_at units held y o)) in
            let one = at_is_one shards p.0 found.0 found.1 in
            let among : IsIn (shard_key c o p.0) (map (shard_key c o) (openings o)) =
            subst (λ n. IsIn (shard_key c o n) (map (shard_key c o) (openings o))) one.1 (is_opening shards found.0 one.0 o) in
            inr (subst (λ k. IsIn k (all_keys c openings todo)) (sym p.2)
            (both.1 (shard_key c o p.0) (subst (λ ns. IsIn (shard_key c o p.0) (map (shard_key c o) ns)) (sym (all_openings o name)) among)))
        | inr still ↦ absurd (apart (ap (λ z. (or_empty z).pages) (layout_same o name still)))
      ]
  set_in key value (inr (o, name, inr its)) is not =
      elim (stood_or_among c openings todo start o its.of value (sym (a.gets.values o its.of name its.named) ∙ ap (finite.get (rows_after rows ops)) (sym its.is) ∙ is)) [
        | inl stood ↦ absurd (not (ap (finite.get rows) its.is ∙ sym (begins.values o its.of name its.named) ∙ stood))
        | inr among ↦ inr (subst (λ k. IsIn k (all_keys c openings todo)) (sym its.is) among)
      ]

  short_op : (key value : List ℕ) → IsKey key → length value ≤ 65535 → length (op_bytes (Set key value)) ≤ 66566
  short_op key value fits short = omega (arith, length-set_op key value, fits.short, short)

  op_counted : (op : RowOp) → IsKeyOfDraft c y (key_of op) → Changes rows op → SaysAfter (rows_after rows ops) op → IsCounted keys rows op
  op_counted (Set key value) (inl mine) changes said = inl (
    set_in key value mine said changes,
    short_op key value (key_fits s rows ops c layouts units held y a key (inl mine))
        (value_is_short s rows ops c layouts units held y a key value (inl mine) said changes),
  )
  op_counted (Set key value) (inr of) changes said =
      let was = blob_long s rows ops c layouts units held y a key value of said in inr (record { old = was.old; stood = was.stood; long = was.long })
  op_counted (Drop key) its changes said = changes
  op_counted (Flip key mask) its changes said = absurd changes

  all_counted : (xs : List RowOp) → AllByRecursion (λ op. IsKeyOfDraft c y (key_of op)) xs → AllByRecursion (Changes rows) xs
      → AllByRecursion (SaysAfter (rows_after rows ops)) xs → AllByRecursion (IsCounted keys rows) xs
  all_counted [] its changes said = tt
  all_counted (op ∷ xs) its changes said = (op_counted op its.0 changes.0 said.0, all_counted xs its.1 changes.1 said.1)

  pub difference_short : AreTaken todo start → length todo ≤ 256 → sum_by payload_of todo ≤ 1048576 → KeysAscend ops → AllByRecursion (Changes rows) ops
      → AllByRecursion (λ op. IsKeyOfDraft c y (key_of op)) ops → length (ops_bytes ops) ≤ 628229738502 + rows_size rows
  difference_short taken few payload order changes its = omega (
    arith,
    counted ops keys rows order (all_counted ops its changes (said_after rows ops order)),
    few_keys c openings todo start taken,
    few,
    payload,
  )
