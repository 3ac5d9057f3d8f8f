-- What changes of the rows of objects come to, key by key.
use Rattle.std.proofs.Common.{◌≡◌, ◌≢◌, ◌⊎◌, inl, inr, ℕ, ◌<◌, ◌^◌, Bool, true, false, cond, List, [], ◌∷◌, Option, Some, None, refl, sym, ap, subst, ◌∙◌, arith}
use Rattle.std.specs.Int.{w64, to_le_bytes}
use Rattle.std.specs.Prelude.{not, ◌&&◌}
use Rattle.std.specs.List.{AllByRecursion}
use Rattle.std.specs.Option.{option_map, option_map_or}
use Rattle.std.specs.FinMap as finite
use Rattle.std.specs.FinSet as set
use Rattle.std.specs.Ordering.{nat_cmp}
use Rattle.std.proofs.lemmas.Bool.{cases_Bool}
use Rattle.byte_maps.specs.ByteMap.{ByteMap}
use Rattle.unit_fields.specs.Prelude.{IsName, IsCollName}
use Rattle.unit_fields.specs.declared.width.Width.{Width}
use Rattle.meta_rows.specs.Prelude.{Rows}
use Rattle.row_format.specs.Prelude.{object_key, coll_key, onode_key, shard_key, Extent, Place}
use Rattle.row_format.proofs.Prelude.{same_head, same_onode, same_shard, coll_no_object, onode_no_shard}
use Rattle.row_facts.proofs.Maps.{get_same, get_other}
use Rattle.row_changes.specs.Prelude.{ChangeMap}
use Rattle.store_image.proofs.Prelude.{equal_or_not}
use Rattle.bitmap_freelist.specs.Bitmap.{Units, Has}
use Rattle.bitmap_freelist.proofs.Reading.{has_insert}
use Rattle.blob_map.specs.Prelude.{PageMap, extents_of}
use Rattle.extent_shards.specs.Prelude.{shard_bytes, shard_limit, first_of, shard_at}
use Rattle.extent_shards.proofs.Joins.{shards_back}
use Rattle.extent_shards.proofs.Openings.{HasExtent, all_full, IsOneOf, each_is, part_all, Rise, EndsBefore, at_is_one, one_is_at, of_map_rise}
use Rattle.plan_proofs.proofs.Names.{same_is}
use Rattle.plan_drafts.specs.Prelude.{Held, Layout, or_empty, IsKeyOf, size_at, ValueKey, attribute, header, pair, value_key, IsKeyOfValue}
use Rattle.txn_planner.specs.declared.touched.Touched.{Touched}
use Rattle.txn_planner.specs.Laying.{is_moved, AllNamed, laid_now, openings, without_shard, without_shards, has_value, is_single, with_shard, with_shards, cut_of, with_map, is_as_long, with_onode, with_touched, with_objects}
use Rattle.page_edits.proofs.Lists.{In, all_at}
use Rattle.txn_planner.proofs.ObjectNames.{left_some, taken_out, left_in}
use Rattle.txn_planner.proofs.SameLayouts.{tested, Stands, firsts_stand, begins_found}

-- ---- keys

-- an onode or a shard is of one object
same_object : (c o u key : List ℕ) → IsCollName c → IsName o → IsName u → IsKeyOf c o key → IsKeyOf c u key → o ≡ u
same_object c o u key coll name named (inl e) (inl f) = (same_onode c o c u coll name coll named (sym e ∙ f)).1
same_object c o u key coll name named (inl e) (inr q) = absurd (onode_no_shard c o c u q.0 coll name coll named (sym e ∙ q.2))
same_object c o u key coll name named (inr p) (inl f) = absurd (onode_no_shard c u c o p.0 coll named coll name (sym f ∙ p.2))
same_object c o u key coll name named (inr p) (inr q) = (same_shard c o c u p.0 q.0 coll name coll named p.1 q.1 (sym p.2 ∙ q.2)).1

-- and neither the row of a collection nor a value
pub coll_apart : (c o key : List ℕ) → IsKeyOf c o key → key ≡ coll_key c → ⊥
coll_apart c o key (inl e) f = coll_no_object c c o _ (sym f ∙ e)
coll_apart c o key (inr p) f = coll_no_object c c o _ (sym f ∙ p.2)

pub value_apart : (c o u key : List ℕ) → IsKeyOf c o key → IsKeyOfValue c u key → ⊥
value_apart c o u key of its = elim of [ inl e ↦ by _ its.of (sym e ∙ its.is) | inr p ↦ by _ its.of (sym p.2 ∙ its.is) ]
  where
    by : (rest : List ℕ) (k : ValueKey) → object_key 0x4f c o rest ≡ value_key c u k → ⊥
    by rest (attribute n) e = omega (arith, same_head _ _ _ _ e)
    by rest header e = omega (arith, same_head _ _ _ _ e)
    by rest (pair q) e = omega (arith, same_head _ _ _ _ e)

pub value_no_coll : (c o : List ℕ) (k : ValueKey) → value_key c o k ≡ coll_key c → ⊥
value_no_coll c o (attribute n) e = omega (arith, same_head _ _ _ _ e)
value_no_coll c o header e = omega (arith, same_head _ _ _ _ e)
value_no_coll c o (pair q) e = omega (arith, same_head _ _ _ _ e)

-- ---- shards that go

module _ (c o : List ℕ) (anew : Units) where
  abbrev either_shard : ℕ → ChangeMap → Bool → ChangeMap
  either_shard p m b = cond b m (finite.insert m (shard_key c o p) None)

  next_gone : (p : ℕ) (m : ChangeMap) (key : List ℕ) → finite.get m key ≡ Some None → finite.get (without_shard c o anew p m) key ≡ Some None
  next_gone p m key is = elim (cases_Bool (set.contains anew p)) [
    | inl it ↦ ap (λ b. finite.get (either_shard p m b) key) it ∙ is
    | inr it ↦ ap (λ b. finite.get (either_shard p m b) key) it ∙ elim (equal_or_not key (shard_key c o p)) [
      | inl e ↦ ap (finite.get (finite.insert m (shard_key c o p) None)) e ∙ get_same m (shard_key c o p) None
      | inr apart ↦ get_other m (shard_key c o p) None key apart ∙ is
    ]
  ]

  next_same : (p : ℕ) (m : ChangeMap) → set.contains anew p ≡ false → finite.get (without_shard c o anew p m) (shard_key c o p) ≡ Some None
  next_same p m not = ap (λ b. finite.get (either_shard p m b) (shard_key c o p)) not ∙ get_same m (shard_key c o p) None

  next_other : (p : ℕ) (m : ChangeMap) (key : List ℕ) → (key ≡ shard_key c o p → ⊥) → finite.get (without_shard c o anew p m) key ≡ finite.get m key
  next_other p m key apart = elim (cases_Bool (set.contains anew p)) [
    | inl it ↦ ap (λ b. finite.get (either_shard p m b) key) it
    | inr it ↦ ap (λ b. finite.get (either_shard p m b) key) it ∙ get_other m (shard_key c o p) None key apart
  ]

  next_kept : (p : ℕ) (m : ChangeMap) → set.contains anew p ≡ true → without_shard c o anew p m ≡ m
  next_kept p m it = ap (either_shard p m) it

  stays_gone : (pages : List ℕ) (m : ChangeMap) (key : List ℕ) → finite.get m key ≡ Some None
      → finite.get (without_shards c o anew pages m) key ≡ Some None
  stays_gone [] m key is = is
  stays_gone (p ∷ ps) m key is = stays_gone ps (without_shard c o anew p m) key (next_gone p m key is)

  dropped : (pages : List ℕ) (m : ChangeMap) (page : ℕ) → set.contains anew page ≡ false → In pages page
      → finite.get (without_shards c o anew pages m) (shard_key c o page) ≡ Some None
  dropped [] m page not h = absurd h
  dropped (p ∷ ps) m page not (inl e) = stays_gone ps (without_shard c o anew p m) (shard_key c o page)
      (ap (λ n. finite.get (without_shard c o anew p m) (shard_key c o n)) (sym e) ∙ next_same p m (ap (set.contains anew) e ∙ not))
  dropped (p ∷ ps) m page not (inr later) = dropped ps (without_shard c o anew p m) page not later

  -- the key of one of them, at which none comes anew
  abbrev IsDropped : List ℕ → List ℕ → Type 0
  IsDropped pages key = (page : ℕ) × In pages page × (set.contains anew page ≡ false) × (key ≡ shard_key c o page)

  drop_others : (pages : List ℕ) (m : ChangeMap) (key : List ℕ)
      → IsDropped pages key ⊎ (finite.get (without_shards c o anew pages m) key ≡ finite.get m key)
  drop_others [] m key = inr refl
  drop_others (p ∷ ps) m key = elim (drop_others ps (without_shard c o anew p m) key) [
    | inl x ↦ inl (x.0, inr x.1, x.2, x.3)
    | inr same ↦ elim (cases_Bool (set.contains anew p)) [
      | inl it ↦ inr (same ∙ ap (λ (n : ChangeMap). finite.get n key) (next_kept p m it))
      | inr it ↦ elim (equal_or_not key (shard_key c o p)) [
        | inl e ↦ inl (p, inl refl, it, e)
        | inr apart ↦ inr (same ∙ next_other p m key apart)
      ]
    ]
  ]

-- ---- where shards begin

opening_kept : (shards : List (List Extent)) (pages : Units) (page : ℕ) → Has pages page → Has (openings shards pages) page
opening_kept [] pages page has = has
opening_kept (s ∷ shards) pages page has = opening_kept shards (set.insert pages (first_of s)) page ((has_insert pages (first_of s) page).1 (inr has))

is_opening : (shards : List (List Extent)) (pages : Units) (es : List Extent) → IsOneOf shards es → Has (openings shards pages) (first_of es)
is_opening [] pages es one = absurd one
is_opening (s ∷ shards) pages es (inl e) =
    opening_kept shards (set.insert pages (first_of s)) (first_of es) ((has_insert pages (first_of s) (first_of es)).1 (inl (ap first_of (sym e))))
is_opening (s ∷ shards) pages es (inr later) = is_opening shards (set.insert pages (first_of s)) es later

of_opening : (shards : List (List Extent)) (pages : Units) (page : ℕ) → Has (openings shards pages) page
    → Has pages page ⊎ ((es : List Extent) × IsOneOf shards es × (first_of es ≡ page))
of_opening [] pages page has = inl has
of_opening (s ∷ shards) pages page has = elim (of_opening shards (set.insert pages (first_of s)) page has) [
  | inr x ↦ inr (x.0, inr x.1, x.2)
  | inl was ↦ elim ((has_insert pages (first_of s) page).0 was) [
    | inl e ↦ inr (s, inl refl, sym e)
    | inr before ↦ inl before
  ]
]

-- ---- shards that come

second : (a b : Bool) → (a && b) ≡ true → b ≡ true
second true b is = is
second false b is = absurd (let no = is in cc)

module _ (w : Width) (rows : Rows) (c o : List ℕ) (only : Bool) where
  abbrev either_row : List Extent → ChangeMap → Bool → ChangeMap
  either_row s m b = cond b m (finite.insert m (shard_key c o (first_of s)) (Some (shard_bytes w s)))

  valued : (held : Option (List ℕ)) (value : List ℕ) → has_value held value ≡ true → held ≡ Some value
  valued None value is = absurd cc
  valued (Some held) value is = ap Some (same_is held value is)

  -- a shard comes over changes, or its row says it already
  abbrev pub Comes : List Extent → ChangeMap → ChangeMap → Type 0
  Comes s old new = (finite.get new (shard_key c o (first_of s)) ≡ Some (Some (shard_bytes w s)))
      ⊎ ((finite.get rows (shard_key c o (first_of s)) ≡ Some (shard_bytes w s))
      × (finite.get new (shard_key c o (first_of s)) ≡ finite.get old (shard_key c o (first_of s))))

  one_comes : (s : List Extent) (m : ChangeMap) → Comes s m (with_shard w rows c o only s m)
  one_comes s m = elim (cases_Bool (not only && has_value (finite.get rows (shard_key c o (first_of s))) (shard_bytes w s))) [
    | inl is ↦ inr (
      valued (finite.get rows (shard_key c o (first_of s))) (shard_bytes w s)
          (second (not only) (has_value (finite.get rows (shard_key c o (first_of s))) (shard_bytes w s)) is),
      ap (λ b. finite.get (either_row s m b) (shard_key c o (first_of s))) is,
    )
    | inr is ↦ inl (ap (λ b. finite.get (either_row s m b) (shard_key c o (first_of s))) is
        ∙ get_same m (shard_key c o (first_of s)) (Some (shard_bytes w s)))
  ]

  one_other : (s : List Extent) (m : ChangeMap) (key : List ℕ) → (key ≡ shard_key c o (first_of s) → ⊥)
      → finite.get (with_shard w rows c o only s m) key ≡ finite.get m key
  one_other s m key apart = elim (cases_Bool (not only && has_value (finite.get rows (shard_key c o (first_of s))) (shard_bytes w s))) [
    | inl is ↦ ap (λ b. finite.get (either_row s m b) key) is
    | inr is ↦ ap (λ b. finite.get (either_row s m b) key) is ∙ get_other m (shard_key c o (first_of s)) (Some (shard_bytes w s)) key apart
  ]

  -- the key of one of them
  abbrev pub IsOfShard : List (List Extent) → List ℕ → Type 0
  IsOfShard shards key = (es : List Extent) × IsOneOf shards es × (key ≡ shard_key c o (first_of es))

  pub come_others : (shards : List (List Extent)) (m : ChangeMap) (key : List ℕ)
      → IsOfShard shards key ⊎ (finite.get (with_shards w rows c o only shards m) key ≡ finite.get m key)
  come_others [] m key = inr refl
  come_others (s ∷ shards) m key = elim (come_others shards (with_shard w rows c o only s m) key) [
    | inl x ↦ inl (x.0, inr x.1, x.2)
    | inr same ↦ elim (equal_or_not key (shard_key c o (first_of s))) [
      | inl e ↦ inl (s, inl refl, e)
      | inr apart ↦ inr (same ∙ one_other s m key apart)
    ]
  ]

  module _ (coll : IsCollName c) (name : IsName o) where
    apart_keys : (s other : List Extent) → first_of s < 2 ^ 32 → first_of other < 2 ^ 32 → first_of s < first_of other
        → shard_key c o (first_of other) ≡ shard_key c o (first_of s) → ⊥
    apart_keys s other lt less below e =
        omega (arith, below, (same_shard c o c o (first_of other) (first_of s) coll name coll name less lt e).2)

    pub all_come : (shards : List (List Extent)) → Rise shards → ((es : List Extent) → IsOneOf shards es → first_of es < 2 ^ 32) → (m : ChangeMap)
        → (es : List Extent) → IsOneOf shards es → Comes es m (with_shards w rows c o only shards m)
    all_come [] rise small m es one = absurd one
    all_come (s ∷ shards) rise small m es (inl e) = subst (λ z. Comes z m (with_shards w rows c o only (s ∷ shards) m)) e
        (elim (come_others shards (with_shard w rows c o only s m) (shard_key c o (first_of s))) [
          | inl x ↦
              let above = each_is (λ z. EndsBefore s z × (first_of s < first_of z)) shards rise.0 x.0 x.1 in
              absurd (apart_keys s x.0 (small s (inl refl)) (small x.0 (inr x.1)) above.1 (sym x.2))
          | inr same ↦ elim (one_comes s m) [
            | inl new ↦ inl (same ∙ new)
            | inr kept ↦ inr (kept.0, same ∙ kept.1)
          ]
        ])
    all_come (s ∷ shards) rise small m es (inr later) =
        let above = each_is (λ z. EndsBefore s z × (first_of s < first_of z)) shards rise.0 es later in
        elim (all_come shards rise.1 (λ z one. small z (inr one)) (with_shard w rows c o only s m) es later) [
          | inl new ↦ inl new
          | inr kept ↦ inr (
            kept.0,
            kept.1 ∙ one_other s m (shard_key c o (first_of es)) (apart_keys s es (small s (inl refl)) (small es (inr later)) above.1),
          )
        ]

-- ---- one object's shards

-- the shards that an object had at these pages are cut anew over changes: those of the map come, and all others go
pub record IsCutOver (w : Width) (rows : Rows) (c o : List ℕ) (present : List ℕ) (pages : PageMap) (old new : ChangeMap) : Type 0 where
  pub come : (page : ℕ) (es : List Extent) → page < 2 ^ 32 → shard_at (cut_of w pages) page ≡ Some es
      → (finite.get new (shard_key c o page) ≡ Some (Some (shard_bytes w es)))
      ⊎ ((finite.get rows (shard_key c o page) ≡ Some (shard_bytes w es)) × (finite.get new (shard_key c o page) ≡ finite.get old (shard_key c o page)))
  pub gone : (page : ℕ) → page < 2 ^ 32 → shard_at (cut_of w pages) page ≡ None → In present page → finite.get new (shard_key c o page) ≡ Some None
  pub other : (page : ℕ) → page < 2 ^ 32 → shard_at (cut_of w pages) page ≡ None
      → (finite.get new (shard_key c o page) ≡ Some None) ⊎ (finite.get new (shard_key c o page) ≡ finite.get old (shard_key c o page))

-- the pages of all extents of a map have numbers that fit their field
abbrev pub AreSmall : PageMap → Type 0
AreSmall pages = (page : ℕ) (place : Place) → finite.get pages page ≡ Some place → page < 2 ^ 32

module _ (w : Width) (rows : Rows) (c o : List ℕ) (coll : IsCollName c) (name : IsName o) (present : List ℕ) (pages : PageMap)
    (below : AllByRecursion (λ page. page < 2 ^ 32) present) (numbers : AreSmall pages) (m : ChangeMap) where
  abbrev shards : List (List Extent)
  shards = cut_of w pages

  rise : Rise shards
  rise = of_map_rise w (Some shard_limit) pages

  -- a shard begins at a page of the map
  small : (es : List Extent) → IsOneOf shards es → first_of es < 2 ^ 32
  small es one =
      let found = begins_found pages es (each_is HasExtent shards (all_full w (Some shard_limit) (extents_of (finite.entries pages))) es one)
      (part_all (Stands pages) shards
      (subst (AllByRecursion (Stands pages)) (sym (shards_back w (Some shard_limit) (extents_of (finite.entries pages)))) (firsts_stand pages)) es one) in
      numbers (first_of es) found.0 found.1

  abbrev coming : ChangeMap
  coming = with_shards w rows c o (is_single shards) shards m

  abbrev written : ChangeMap
  written = with_map w rows c o present pages m

  -- no shard begins at the page
  none_opens : (page : ℕ) → shard_at shards page ≡ None → set.contains (openings shards set.empty) page ≡ false
  none_opens page none = elim (cases_Bool (set.contains (openings shards set.empty) page)) [
    | inr not ↦ not
    | inl has ↦ elim (of_opening shards set.empty page has) [
      | inl was ↦ absurd (let t = sym was ∙ set.contains-empty nat_cmp page in cc)
      | inr x ↦ absurd (let t = sym none ∙ ap (shard_at shards) (sym x.2) ∙ one_is_at shards rise x.0 x.1 in cc)
    ]
  ]

  -- one does
  opens : (es : List Extent) → IsOneOf shards es → set.contains (openings shards set.empty) (first_of es) ≡ true
  opens es one = is_opening shards set.empty es one

  none_comes : (page : ℕ) → page < 2 ^ 32 → shard_at shards page ≡ None
      → finite.get coming (shard_key c o page) ≡ finite.get m (shard_key c o page)
  none_comes page lt none = elim (come_others w rows c o (is_single shards) shards m (shard_key c o page)) [
    | inl x ↦
        let same : page ≡ first_of x.0 = (same_shard c o c o page (first_of x.0) coll name coll name lt (small x.0 x.1) x.2).2 in
        absurd (let t = sym none ∙ ap (shard_at shards) same ∙ one_is_at shards rise x.0 x.1 in cc)
    | inr same ↦ same
  ]

  -- the row of one that comes isn't dropped behind it
  not_dropped : (es : List Extent) → IsOneOf shards es
      → finite.get written (shard_key c o (first_of es)) ≡ finite.get coming (shard_key c o (first_of es))
  not_dropped es one = elim (drop_others c o (openings shards set.empty) present coming (shard_key c o (first_of es))) [
    | inl x ↦
        let same : first_of es ≡ x.0 =
        (same_shard c o c o (first_of es) x.0 coll name coll name (small es one) (all_at (λ n. n < 2 ^ 32) present x.0 below x.1) x.3).2 in
        absurd (let t = sym (opens es one) ∙ ap (set.contains (openings shards set.empty)) same ∙ x.2 in cc)
    | inr same ↦ same
  ]

  came : (es : List Extent) → IsOneOf shards es → Comes w rows c o (is_single shards) es m written
  came es one = elim (all_come w rows c o (is_single shards) coll name shards rise small m es one) [
    | inl new ↦ inl (not_dropped es one ∙ new)
    | inr kept ↦ inr (kept.0, not_dropped es one ∙ kept.1)
  ]

  went : (page : ℕ) → page < 2 ^ 32 → shard_at shards page ≡ None → In present page → finite.get written (shard_key c o page) ≡ Some None
  went page lt none among = dropped c o (openings shards set.empty) present coming page (none_opens page none) among

  pub is_cut : IsCutOver w rows c o present pages m written
  is_cut = record {
    come = λ page es lt at.
        let one = at_is_one shards page es at in
        subst (λ n. (finite.get written (shard_key c o n) ≡ Some (Some (shard_bytes w es)))
        ⊎ ((finite.get rows (shard_key c o n) ≡ Some (shard_bytes w es)) × (finite.get written (shard_key c o n) ≡ finite.get m (shard_key c o n))))
        one.1 (came es one.0);
    gone = went;
    other = λ page lt none. elim (drop_others c o (openings shards set.empty) present coming (shard_key c o page)) [
      | inl x ↦
          let same : page ≡ x.0 =
          (same_shard c o c o page x.0 coll name coll name lt (all_at (λ n. n < 2 ^ 32) present x.0 below x.1) x.3).2 in
          inl (went page lt none (subst (In present) (sym same) x.1))
      | inr same ↦ inr (same ∙ none_comes page lt none)
    ];
  }

  pub map_others : (key : List ℕ) → ((page : ℕ) × (page < 2 ^ 32) × (key ≡ shard_key c o page)) ⊎ (finite.get written key ≡ finite.get m key)
  map_others key = elim (drop_others c o (openings shards set.empty) present coming key) [
    | inl x ↦ inl (x.0, all_at (λ page. page < 2 ^ 32) present x.0 below x.1, x.3)
    | inr kept ↦ elim (come_others w rows c o (is_single shards) shards m key) [
      | inl x ↦ inl (first_of x.0, small x.0 x.1, x.2)
      | inr same ↦ inr (kept ∙ same)
    ]
  ]

-- ---- one object

-- The rows of an object that was looked at are laid over changes: its onode, where it isn't as long as it was, and its shards where a page of it
-- has moved.
pub record IsLaid (w : Width) (rows : Rows) (c o : List ℕ) (t : Touched) (layout : Option Layout) (old new : ChangeMap) : Type 0 where
  pub onode : (finite.get new (onode_key c o) ≡ Some (option_map (to_le_bytes w64) (size_at layout)))
      ⊎ ((t.before ≡ size_at layout) × (finite.get new (onode_key c o) ≡ finite.get old (onode_key c o)))
  pub moved : is_moved t.left t.now ≡ true → IsCutOver w rows c o t.shards.items (or_empty layout).pages old new
  pub still : is_moved t.left t.now ≡ false → (page : ℕ) → page < 2 ^ 32 → finite.get new (shard_key c o page) ≡ finite.get old (shard_key c o page)

module _ (w : Width) (rows : Rows) (c o : List ℕ) where
  -- so it is with the shards where none of their keys changes before and behind
  cut_between : (present : List ℕ) (pages : PageMap) (old old' new new' : ChangeMap)
      → ((page : ℕ) → page < 2 ^ 32 → finite.get old (shard_key c o page) ≡ finite.get old' (shard_key c o page))
      → ((page : ℕ) → page < 2 ^ 32 → finite.get new' (shard_key c o page) ≡ finite.get new (shard_key c o page))
      → IsCutOver w rows c o present pages old new → IsCutOver w rows c o present pages old' new'
  cut_between present pages old old' new new' before behind is = record {
    come = λ page es lt at. elim (is.come page es lt at) [
      | inl says ↦ inl (behind page lt ∙ says)
      | inr kept ↦ inr (kept.0, behind page lt ∙ kept.1 ∙ before page lt)
    ];
    gone = λ page lt none among. behind page lt ∙ is.gone page lt none among;
    other = λ page lt none. elim (is.other page lt none) [
      | inl gone ↦ inl (behind page lt ∙ gone)
      | inr kept ↦ inr (behind page lt ∙ kept ∙ before page lt)
    ];
  }

  -- and with the whole object
  laid_between : (t : Touched) (layout : Option Layout) (old old' new new' : ChangeMap)
      → ((key : List ℕ) → IsKeyOf c o key → finite.get old key ≡ finite.get old' key)
      → ((key : List ℕ) → IsKeyOf c o key → finite.get new' key ≡ finite.get new key)
      → IsLaid w rows c o t layout old new → IsLaid w rows c o t layout old' new'
  laid_between t layout old old' new new' before behind is = record {
    onode = elim is.onode [
      | inl says ↦ inl (behind (onode_key c o) (inl refl) ∙ says)
      | inr kept ↦ inr (kept.0, behind (onode_key c o) (inl refl) ∙ kept.1 ∙ before (onode_key c o) (inl refl))
    ];
    moved = λ does. cut_between t.shards.items (or_empty layout).pages old old' new new' (λ page lt. before (shard_key c o page) (inr (page, lt, refl)))
        (λ page lt. behind (shard_key c o page) (inr (page, lt, refl))) (is.moved does);
    still = λ does page lt. behind (shard_key c o page) (inr (page, lt, refl)) ∙ is.still does page lt
        ∙ before (shard_key c o page) (inr (page, lt, refl));
  }

-- one that is as long as it was
as_long : (before size : Option ℕ) → is_as_long before size ≡ true → before ≡ size
as_long None None is = refl
as_long (Some b) (Some s) is = ap Some (tested b s is)
as_long None (Some s) is = absurd cc
as_long (Some b) None is = absurd cc

module _ (w : Width) (rows : Rows) (c o : List ℕ) (coll : IsCollName c) (name : IsName o) (units : List ℕ) (held : Held) (t : Touched)
    (below : AllByRecursion (λ page. page < 2 ^ 32) t.shards.items) (numbers : AreSmall (or_empty (laid_now units held t)).pages) (m : ChangeMap) where
  abbrev layout : Option Layout
  layout = laid_now units held t

  abbrev size : Option (List ℕ)
  size = option_map (to_le_bytes w64) (size_at layout)

  abbrev either_size : Bool → ChangeMap
  either_size b = cond b m (finite.insert m (onode_key c o) size)

  abbrev sized : ChangeMap
  sized = with_onode c o t.before (size_at layout) m

  abbrev either_map : Bool → ChangeMap
  either_map b = cond b (with_map w rows c o t.shards.items (or_empty layout).pages sized) sized

  abbrev laid_over : ChangeMap
  laid_over = with_touched w rows c units held o t m

  no_onode : (page : ℕ) → shard_key c o page ≢ onode_key c o
  no_onode page e = onode_no_shard c o c o page coll name coll name (sym e)

  sized_other : (key : List ℕ) → (key ≡ onode_key c o → ⊥) → finite.get sized key ≡ finite.get m key
  sized_other key apart = elim (cases_Bool (is_as_long t.before (size_at layout))) [
    | inl is ↦ ap (λ b. finite.get (either_size b) key) is
    | inr is ↦ ap (λ b. finite.get (either_size b) key) is ∙ get_other m (onode_key c o) size key apart
  ]

  sized_onode : (finite.get sized (onode_key c o) ≡ Some size)
      ⊎ ((t.before ≡ size_at layout) × (finite.get sized (onode_key c o) ≡ finite.get m (onode_key c o)))
  sized_onode = elim (cases_Bool (is_as_long t.before (size_at layout))) [
    | inl is ↦ inr (as_long t.before (size_at layout) is, ap (λ b. finite.get (either_size b) (onode_key c o)) is)
    | inr is ↦ inl (ap (λ b. finite.get (either_size b) (onode_key c o)) is ∙ get_same m (onode_key c o) size)
  ]

  others_over : (key : List ℕ) → ((page : ℕ) × (page < 2 ^ 32) × (key ≡ shard_key c o page)) ⊎ (finite.get laid_over key ≡ finite.get sized key)
  others_over key = elim (cases_Bool (is_moved t.left t.now)) [
    | inl does ↦ elim (map_others w rows c o coll name t.shards.items (or_empty layout).pages below numbers sized key) [
      | inl its ↦ inl its
      | inr same ↦ inr (ap (λ b. finite.get (either_map b) key) does ∙ same)
    ]
    | inr not ↦ inr (ap (λ b. finite.get (either_map b) key) not)
  ]

  onode_over : finite.get laid_over (onode_key c o) ≡ finite.get sized (onode_key c o)
  onode_over = elim (others_over (onode_key c o)) [
    | inl x ↦ absurd (no_onode x.0 (sym x.2))
    | inr same ↦ same
  ]

  pub is_laid : IsLaid w rows c o t layout m laid_over
  is_laid = record {
    onode = elim sized_onode [
      | inl says ↦ inl (onode_over ∙ says)
      | inr kept ↦ inr (kept.0, onode_over ∙ kept.1)
    ];
    moved = λ does. cut_between w rows c o t.shards.items (or_empty layout).pages sized m
        (with_map w rows c o t.shards.items (or_empty layout).pages sized) laid_over
        (λ page lt. sized_other (shard_key c o page) (no_onode page))
        (λ page lt. ap (λ b. finite.get (either_map b) (shard_key c o page)) does)
        (is_cut w rows c o coll name t.shards.items (or_empty layout).pages below numbers sized);
    still = λ not page lt. ap (λ b. finite.get (either_map b) (shard_key c o page)) not ∙ sized_other (shard_key c o page) (no_onode page);
  }

  pub object_others : (key : List ℕ) → IsKeyOf c o key ⊎ (finite.get laid_over key ≡ finite.get m key)
  object_others key = elim (others_over key) [
    | inl its ↦ inl (inr its)
    | inr same ↦ elim (equal_or_not key (onode_key c o)) [
      | inl e ↦ inl (inl e)
      | inr apart ↦ inr (same ∙ sized_other key apart)
    ]
  ]

-- ---- objects

-- the objects have names, and their shards have had and get pages whose numbers fit their field
pub record AreSound (units : List ℕ) (held : Held) (objects : ByteMap Touched) : Type 0 where
  pub named : AllNamed objects
  pub below : (o : List ℕ) (t : Touched) → finite.get objects o ≡ Some t → AllByRecursion (λ page. page < 2 ^ 32) t.shards.items
  pub numbers : (o : List ℕ) (t : Touched) → finite.get objects o ≡ Some t → AreSmall (or_empty (laid_now units held t)).pages

module _ (w : Width) (rows : Rows) (c : List ℕ) (coll : IsCollName c) (units : List ℕ) (held : Held) where
  left_sound : (objects : ByteMap Touched) (u : List ℕ) → AreSound units held objects → AreSound units held (finite.remove objects u)
  left_sound objects u s = record {
    named = λ o t is. s.named o t (left_some objects u o t is);
    below = λ o t is. s.below o t (left_some objects u o t is);
    numbers = λ o t is. s.numbers o t (left_some objects u o t is);
  }

  -- ---- one of them

  abbrev step_by : List ℕ → ChangeMap → Option Touched → ChangeMap
  step_by o m z = option_map_or (λ t. with_touched w rows c units held o t m) z m

  abbrev step : List ℕ → ByteMap Touched → ChangeMap → ChangeMap
  step o objects m = step_by o m (finite.get objects o)

  step_others : (o : List ℕ) (objects : ByteMap Touched) (m : ChangeMap) → AreSound units held objects → (key : List ℕ)
      → (IsName o × IsKeyOf c o key) ⊎ (finite.get (step o objects m) key ≡ finite.get m key)
  step_others o objects m s key = by (finite.get objects o) refl
    where
      by : (z : Option Touched) → finite.get objects o ≡ z → (IsName o × IsKeyOf c o key) ⊎ (finite.get (step_by o m z) key ≡ finite.get m key)
      by None p = inr refl
      by (Some t) p = elim (object_others w rows c o coll (s.named o t p) units held t (s.below o t p) (s.numbers o t p) m key) [
        | inl its ↦ inl (s.named o t p, its)
        | inr same ↦ inr same
      ]

  -- ---- all of them

  -- a key that is of no object is as before
  pub objects_others : (names : List (List ℕ)) (objects : ByteMap Touched) (m : ChangeMap) → AreSound units held objects → (key : List ℕ)
      → ((o : List ℕ) × IsName o × IsKeyOf c o key) ⊎ (finite.get (with_objects w rows c units held names objects m) key ≡ finite.get m key)
  objects_others [] objects m s key = inr refl
  objects_others (o ∷ names) objects m s key =
      elim (objects_others names (finite.remove objects o) (step o objects m) (left_sound objects o s) key) [
        | inl its ↦ inl its
        | inr same ↦ elim (step_others o objects m s key) [ inl its ↦ inl (o, its.0, its.1) | inr kept ↦ inr (same ∙ kept) ]
      ]

  -- so are those of an object that wasn't looked at
  pub objects_kept : (names : List (List ℕ)) (objects : ByteMap Touched) (m : ChangeMap) (o : List ℕ) → IsName o → AreSound units held objects
      → finite.get objects o ≡ None → (key : List ℕ) → IsKeyOf c o key → finite.get (with_objects w rows c units held names objects m) key ≡ finite.get m key
  objects_kept [] objects m o name s none key its = refl
  objects_kept (u ∷ names) objects m o name s none key its = elim (equal_or_not u o) [
    | inl e ↦ objects_kept names (finite.remove objects u) (step u objects m) o name (left_sound objects u s) (taken_out objects u o e) key its
        ∙ ap (λ (n : ChangeMap). finite.get n key) (ap (step_by u m) (ap (finite.get objects) e ∙ none))
    | inr apart ↦ objects_kept names (finite.remove objects u) (step u objects m) o name (left_sound objects u s) (left_in objects u o apart ∙ none) key its
        ∙ elim (step_others u objects m s key) [
          | inl own ↦ absurd (apart (same_object c u o key coll own.0 name own.1 its))
          | inr same ↦ same
        ]
  ]

  -- and those of another are laid
  pub objects_laid : (names : List (List ℕ)) (objects : ByteMap Touched) (m : ChangeMap) (o : List ℕ) (t : Touched) → IsName o
      → AreSound units held objects → In names o → finite.get objects o ≡ Some t
      → IsLaid w rows c o t (laid_now units held t) m (with_objects w rows c units held names objects m)
  objects_laid [] objects m o t name s among is = absurd among
  objects_laid (u ∷ names) objects m o t name s among is = elim (equal_or_not u o) [
    | inl e ↦
        let now : step u objects m ≡ with_touched w rows c units held o t m = ap (λ v. step v objects m) e ∙ ap (step_by o m) is in
        laid_between w rows c o t (laid_now units held t) m m (with_touched w rows c units held o t m)
        (with_objects w rows c units held names (finite.remove objects u) (step u objects m)) (λ key its. refl)
        (λ key its. objects_kept names (finite.remove objects u) (step u objects m) o name (left_sound objects u s) (taken_out objects u o e) key its
        ∙ ap (λ (n : ChangeMap). finite.get n key) now)
        (is_laid w rows c o coll name units held t (s.below o t is) (s.numbers o t is) m)
    | inr apart ↦
        let later = objects_laid names (finite.remove objects u) (step u objects m) o t name (left_sound objects u s)
        (elim among [ inl e ↦ absurd (apart e) | inr later ↦ later ]) (left_in objects u o apart ∙ is) in
        laid_between w rows c o t (laid_now units held t) (step u objects m) m
        (with_objects w rows c units held names (finite.remove objects u) (step u objects m))
        (with_objects w rows c units held names (finite.remove objects u) (step u objects m))
        (λ key its. elim (step_others u objects m s key) [
          | inl own ↦ absurd (apart (same_object c u o key coll own.0 name own.1 its))
          | inr same ↦ same
        ]) (λ key its. refl) later
  ]
