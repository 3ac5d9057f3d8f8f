-- Which collection named a blob first, as rows are passed in the order of their keys.
use Rattle.std.proofs.Common.{◌≡◌, ◌≢◌, ◌⊎◌, ◌↔◌, inl, inr, ℕ, zero, suc, ◌<◌, ◌^◌, Bool, true, false, cond, List, [], ◌∷◌, ◌++◌, length, drop, Option, Some, None, MatchOption, refl, sym, ap, subst, ◌∙◌, arith}
use Rattle.std.specs.Prelude.{Any, is_some}
use Rattle.std.specs.List.{AllByRecursion}
use Rattle.std.specs.Int.{w32, w64, to_be_bytes, from_be_bytes}
use Rattle.std.specs.FinMap as map
use Rattle.std.specs.Ordering.{nat_cmp, ordering_then, ordering_reverse, MatchOrdering}
use Rattle.std.specs.declared.cmp.Ordering.{Ordering}
use Rattle.std.specs.declared.cmp.Ordering.TheVariants.{Less, Equal, Greater}
use Rattle.std.proofs.lemmas.Bool.{cases_Bool, cases_eq}
use Rattle.std.proofs.lemmas.Cmp.{ranked, tied_itself, nat_cmp_total, nat_list_cmp_total}
use Rattle.std.proofs.lemmas.Nat.{from_be_bytes-to_be_bytes_8}
use Rattle.byte_maps.specs.ByteMap.{byte_order}
use Rattle.byte_maps.proofs.Prelude.{same_bytes}
use Rattle.unit_fields.specs.Prelude.{IsCollName}
use Rattle.unit_fields.specs.declared.width.Width.{Width}
use Rattle.unit_fields.proofs.CollNames.{no_zero_in_coll}
use Rattle.meta_rows.specs.Prelude.{Rows}
use Rattle.meta_rows.proofs.RowLemmas.{get-insert_same, get-insert_other}
use Rattle.row_format.specs.Prelude.{shared_key, shard_key, Body, private, shared, Extent, NamesBlob, FitsExtent, FitsBody, shard}
use Rattle.row_format.specs.Row as format
use Rattle.store_image.specs.Prelude.{HasRow, HasShard, IsNamedEarlier}
use Rattle.row_reading.proofs.KeyOrder.{after_front}
use Rattle.row_check.specs.Bad.{IsBelow, IsUpTo}
use Rattle.row_check.specs.Named.{Namers, NamesSoFar, NamesFirst, AreNamersSoFar, IsNamedByOther, KnowsEarlier, named_too, all_named}

-- ---- keys in order

pub not_less_back : (k key : List ℕ) → byte_order k key ≡ Less → byte_order key k ≢ Less
not_less_back k key less = let back = nat_list_cmp_total.antisymm key k ∙ ap ordering_reverse less in λ e. absurd cc

pub below_or_same : (k key : List ℕ) → byte_order key k ≢ Less → (byte_order k key ≡ Less) ⊎ (key ≡ k)
below_or_same k key up = by (byte_order key k) refl
  where
    by : (r : Ordering) → byte_order key k ≡ r → (byte_order k key ≡ Less) ⊎ (key ≡ k)
    by Less e = absurd (up e)
    by Equal e = inr (same_bytes key k e)
    by Greater e = inl (nat_list_cmp_total.antisymm k key ∙ ap ordering_reverse e)

pub itself_up_to : (key : List ℕ) → byte_order key key ≢ Less
itself_up_to key = let tied = tied_itself nat_list_cmp_total key in λ e. absurd cc

-- names without a zero are in the order of what they begin, each ended by a zero
names_order : (c d x y : List ℕ) → AllByRecursion (λ n. 0 < n) d → byte_order c d ≡ Less → byte_order (c ++ 0 ∷ x) (d ++ 0 ∷ y) ≡ Less
names_order [] [] x y q is = absurd cc
names_order [] (m ∷ d) x y q is =
    elim (nat_cmp 0 m) as (λ o. MatchOrdering o (0 < m) (0 ≡ m) (m < 0) → ordering_then o (byte_order x (d ++ 0 ∷ y)) ≡ Less) [
      | Less ↦ λ h. refl
      | Equal ↦ λ h. absurd (omega (arith, h, q.0))
      | Greater ↦ λ h. absurd (omega (arith, h))
    ] (ranked 0 m (nat_cmp 0 m) refl)
names_order (n ∷ c) [] x y q is = absurd cc
names_order (n ∷ c) (m ∷ d) x y q is =
    elim (nat_cmp n m) as (λ o. ordering_then o (byte_order c d) ≡ Less → ordering_then o (byte_order (c ++ 0 ∷ x) (d ++ 0 ∷ y)) ≡ Less) [
      | Less ↦ λ e. refl
      | Equal ↦ λ e. names_order c d x y q.1 e
      | Greater ↦ λ e. absurd cc
    ] is

-- and so are the keys of shards
shards_order : (c o d u : List ℕ) (page other : ℕ) → IsCollName d → byte_order c d ≡ Less → byte_order (shard_key c o page) (shard_key d u other) ≡ Less
shards_order c o d u page other name less =
    after_front (0x4f ∷ []) (c ++ 0 ∷ behind o page) (d ++ 0 ∷ behind u other) ∙ names_order c d (behind o page) (behind u other) (no_zero_in_coll d name) less
  where
    behind : List ℕ → ℕ → List ℕ
    behind n p = n ++ 0 ∷ (0x6f ∷ to_be_bytes w32 p ++ 0x78 ∷ [])

-- ---- keys of blobs

pub same_blob : (a b : ℕ) → a < 2 ^ 64 → b < 2 ^ 64 → shared_key a ≡ shared_key b → a ≡ b
same_blob a b la lb e =
    sym (from_be_bytes-to_be_bytes_8 a la) ∙ ap (λ (k : List ℕ). from_be_bytes w64 (drop 1 k)) e ∙ from_be_bytes-to_be_bytes_8 b lb

-- ---- some extent

pub any_head : (P : Extent → Type 0) (e : Extent) (es : List Extent) → P e → Any P (e ∷ es)
any_head P e es p = (zero, e, omega arith, refl, p)

pub any_later : (P : Extent → Type 0) (e : Extent) (es : List Extent) → Any P es → Any P (e ∷ es)
any_later P e es (k, x, lt, is, p) = (suc k, x, omega (arith, lt), is, p)

pub any_cases : (P : Extent → Type 0) (e : Extent) (es : List Extent) → Any P (e ∷ es) → P e ⊎ Any P es
any_cases P e es (zero, x, lt, is, p) = inl (subst P (sym is) p)
any_cases P e es (suc k, x, lt, is, p) = inr (k, x, omega (arith, lt), is, p)

none_of_none : (P : Extent → Type 0) → Any P [] → ⊥
none_of_none P (k, x, lt, is, p) = omega (arith, lt)

abbrev Names : ℕ → List Extent → Type 0
Names sbid es = Any (λ e. NamesBlob sbid e.body) es

names_body : (sbid : ℕ) (b : Body) → NamesBlob sbid b ⊎ (NamesBlob sbid b → ⊥)
names_body sbid (private unit csums) = inr (λ is. is)
names_body sbid (shared other first count) = cases_eq other sbid

names_or_not : (sbid : ℕ) (es : List Extent) → Names sbid es ⊎ (Names sbid es → ⊥)
names_or_not sbid [] = inr (none_of_none (λ e. NamesBlob sbid e.body))
names_or_not sbid (e ∷ es) = elim (names_body sbid e.body) [
  | inl is ↦ inl (any_head (λ x. NamesBlob sbid x.body) e es is)
  | inr other ↦ elim (names_or_not sbid es) [
    | inl later ↦ inl (any_later (λ x. NamesBlob sbid x.body) e es later)
    | inr none ↦ inr (λ any. elim (any_cases (λ x. NamesBlob sbid x.body) e es any) [ inl is ↦ other is | inr later ↦ none later ])
  ]
]

-- ---- the extents of a shard

-- what a map has under a key once the collection named some blobs: what it had; or the collection, if it names this one
pub record NamedWith (c : List ℕ) (old new : Option (List ℕ)) (Named : Type 0) : Type 0 where
  pub kept : (d : List ℕ) → old ≡ Some d → new ≡ Some d
  pub added : old ≡ None → Named → new ≡ Some c
  pub none : old ≡ None → (Named → ⊥) → new ≡ None

has_key : (m : Namers) (key : List ℕ) → map.contains_key m key ≡ true → map.get m key ≢ None
has_key m key has none = let no : map.contains_key m key ≡ false = ap is_some none in absurd cc

no_key : (m : Namers) (key : List ℕ) → map.contains_key m key ≡ false → map.get m key ≡ None
no_key m key has = elim (map.get m key) as (λ r. is_some r ≡ false → r ≡ None) [
  | None ↦ λ e. refl
  | Some d ↦ λ e. absurd cc
] has

module _ (c : List ℕ) (sbid : ℕ) (low : sbid < 2 ^ 64) where
  body_named : (m : Namers) (w : Width) (b : Body) → FitsBody w b
      → NamedWith c (map.get m (shared_key sbid)) (map.get (named_too c m b) (shared_key sbid)) (NamesBlob sbid b)
  body_named m w (private unit csums) fits = record { kept = λ d e. e; added = λ e is. absurd is; none = λ e is. e }
  body_named m w (shared other first count) fits = by (map.contains_key m (shared_key other)) refl
    where
      by : (has : Bool) → map.contains_key m (shared_key other) ≡ has
          → NamedWith c (map.get m (shared_key sbid)) (map.get (cond has m (map.insert m (shared_key other) c)) (shared_key sbid)) (other ≡ sbid)
      by true has = record {
        kept = λ d e. e;
        added = λ e is. absurd (has_key m (shared_key other) has (subst (λ n. map.get m (shared_key n) ≡ None) (sym is) e));
        none = λ e is. e;
      }
      by false has = record {
        kept = λ d e. elim (cases_eq other sbid) [
          | inl is ↦ absurd (let none = no_key m (shared_key other) has in
              let both : None ≡ Some d = sym none ∙ ap (λ n. map.get m (shared_key n)) is ∙ e in cc)
          | inr differ ↦ get-insert_other m (shared_key other) c (shared_key sbid) (λ s. differ (same_blob other sbid fits.0 low s)) ∙ e
        ];
        added = λ e is. subst (λ n. map.get (map.insert m (shared_key other) c) (shared_key n) ≡ Some c) is (get-insert_same m (shared_key other) c);
        none = λ e is. get-insert_other m (shared_key other) c (shared_key sbid) (λ s. is (same_blob other sbid fits.0 low s)) ∙ e;
      }

  pub extents_named : (m : Namers) (w : Width) (es : List Extent) → AllByRecursion (FitsExtent w) es
      → NamedWith c (map.get m (shared_key sbid)) (map.get (all_named c m es) (shared_key sbid)) (Names sbid es)
  extents_named m w [] fit = record { kept = λ d e. e; added = λ e is. absurd (none_of_none (λ x. NamesBlob sbid x.body) is); none = λ e is. e }
  extents_named m w (e ∷ es) fit =
      let one = body_named m w e.body fit.0.body in
      let rest = extents_named (named_too c m e.body) w es fit.1 in
      record {
        kept = λ d is. rest.kept d (one.kept d is);
        added = λ is any. elim (names_body sbid e.body) [
          | inl here ↦ rest.kept c (one.added is here)
          | inr other ↦ rest.added (one.none is other) (later any other)
        ];
        none = λ is no. rest.none (one.none is (λ here. no (any_head (λ x. NamesBlob sbid x.body) e es here)))
            (λ any. no (any_later (λ x. NamesBlob sbid x.body) e es any));
      }
    where
      later : Names sbid (e ∷ es) → (NamesBlob sbid e.body → ⊥) → Names sbid es
      later any other = elim (any_cases (λ x. NamesBlob sbid x.body) e es any) [ inl here ↦ absurd (other here) | inr more ↦ more ]

-- ---- what is known of namers

module _ (w : Width) (rows : Rows) where
  pub none_named : (Before : List ℕ → Type 0) → ((r : format.Row) → HasRow w rows r → Before (format.row_key r) → ⊥) → AreNamersSoFar w rows Before map.empty
  none_named Before none sbid low = subst (λ (r : Option (List ℕ)). MatchOption r ((c : List ℕ) → ¬ NamesSoFar w rows Before sbid c) (NamesFirst w rows Before sbid))
      (sym (map.get-empty byte_order (shared_key sbid)))
      (λ c so_far. none (shard c so_far.object so_far.page so_far.extents) so_far.has_shard so_far.before)

  -- the shards with the keys of the first kind are those with keys of the second
  abbrev pub SameShards : (List ℕ → Type 0) → (List ℕ → Type 0) → Type 0
  SameShards B C = (c o : List ℕ) (page : ℕ) (es : List Extent) → HasShard w rows c o page es → B (shard_key c o page) ↔ C (shard_key c o page)

  so_far_as : (B C : List ℕ → Type 0) → SameShards B C → (sbid : ℕ) (c : List ℕ) → NamesSoFar w rows B sbid c → NamesSoFar w rows C sbid c
  so_far_as B C same sbid c is = record {
    object = is.object;
    page = is.page;
    extents = is.extents;
    has_shard = is.has_shard;
    before = (same c is.object is.page is.extents is.has_shard).0 is.before;
    names = is.names;
  }

  pub namers_as : (B C : List ℕ → Type 0) → SameShards B C → (m : Namers) → AreNamersSoFar w rows B m → AreNamersSoFar w rows C m
  namers_as B C same m are sbid low = by (map.get m (shared_key sbid)) (are sbid low)
    where
      back : SameShards C B
      back c o page es has = ((same c o page es has).1, (same c o page es has).0)

      by : (r : Option (List ℕ)) → MatchOption r ((c : List ℕ) → ¬ NamesSoFar w rows B sbid c) (NamesFirst w rows B sbid)
          → MatchOption r ((c : List ℕ) → ¬ NamesSoFar w rows C sbid c) (NamesFirst w rows C sbid)
      by None none = λ c is. none c (so_far_as C B back sbid c is)
      by (Some d) first = record {
        names = so_far_as B C same sbid d first.names;
        first = λ e is. first.first e (so_far_as C B back sbid e is);
      }

  module _ (c o : List ℕ) (page : ℕ) (coll : IsCollName c) where
    -- the collections of shards before this one don't come behind its own
    before_here : (sbid : ℕ) (d : List ℕ) → NamesSoFar w rows (IsBelow (shard_key c o page)) sbid d → byte_order c d ≢ Less
    before_here sbid d is less = not_less_back (shard_key d is.object is.page) (shard_key c o page) is.before
        (shards_order c o d is.object page is.page is.has_shard.fits.coll_name less)

    pub earlier_known : (m : Namers) → AreNamersSoFar w rows (IsBelow (shard_key c o page)) m → KnowsEarlier w rows m c
    earlier_known m are sbid low = (
      λ other.
          let first : NamesFirst w rows (IsBelow (shard_key c o page)) sbid other.0 = subst (λ (r : Option (List ℕ)).
          MatchOption r ((x : List ℕ) → ¬ NamesSoFar w rows (IsBelow (shard_key c o page)) sbid x) (NamesFirst w rows (IsBelow (shard_key c o page)) sbid))
          other.1 (are sbid low) in
          let names = first.names in
          record {
            coll = other.0;
            before = elim (below_or_same other.0 c (before_here sbid other.0 names)) [ inl less ↦ less | inr same ↦ absurd (other.2 (sym same)) ];
            named = record { object = names.object; page = names.page; extents = names.extents; has_shard = names.has_shard; names = names.names };
          },
      λ earlier. by (map.get m (shared_key sbid)) refl (are sbid low) earlier,
    )
      where
        so_far : (earlier : IsNamedEarlier w rows c sbid) → NamesSoFar w rows (IsBelow (shard_key c o page)) sbid earlier.coll
        so_far earlier = record {
          object = earlier.named.object;
          page = earlier.named.page;
          extents = earlier.named.extents;
          has_shard = earlier.named.has_shard;
          before = shards_order earlier.coll earlier.named.object c o earlier.named.page page coll earlier.before;
          names = earlier.named.names;
        }

        by : (r : Option (List ℕ)) → map.get m (shared_key sbid) ≡ r
            → MatchOption r ((x : List ℕ) → ¬ NamesSoFar w rows (IsBelow (shard_key c o page)) sbid x) (NamesFirst w rows (IsBelow (shard_key c o page)) sbid)
            → IsNamedEarlier w rows c sbid → IsNamedByOther m (shared_key sbid) c
        by None is none earlier = absurd (none earlier.coll (so_far earlier))
        by (Some d) is first earlier =
            (d, is, λ same. first.first earlier.coll (so_far earlier) (subst (λ (x : List ℕ). byte_order earlier.coll x ≡ Less) (sym same) earlier.before))

    -- the shard is passed
    module _ (es : List Extent) (has : HasShard w rows c o page es)
        (only : (d u : List ℕ) (q : ℕ) (fs : List Extent) → HasShard w rows d u q fs → shard_key c o page ≡ shard_key d u q → (c ≡ d) × (es ≡ fs)) where
      here : (sbid : ℕ) → Names sbid es → NamesSoFar w rows (IsUpTo (shard_key c o page)) sbid c
      here sbid names = record { object = o; page = page; extents = es; has_shard = has; before = itself_up_to (shard_key c o page); names = names }

      wider : (sbid : ℕ) (d : List ℕ) → NamesSoFar w rows (IsBelow (shard_key c o page)) sbid d → NamesSoFar w rows (IsUpTo (shard_key c o page)) sbid d
      wider sbid d is = record {
        object = is.object;
        page = is.page;
        extents = is.extents;
        has_shard = is.has_shard;
        before = not_less_back (shard_key d is.object is.page) (shard_key c o page) is.before;
        names = is.names;
      }

      before_or_here : (sbid : ℕ) (d : List ℕ) → NamesSoFar w rows (IsUpTo (shard_key c o page)) sbid d
          → NamesSoFar w rows (IsBelow (shard_key c o page)) sbid d ⊎ ((c ≡ d) × Names sbid es)
      before_or_here sbid d is = elim (below_or_same (shard_key d is.object is.page) (shard_key c o page) is.before) [
        | inl less ↦ inl (record {
          object = is.object;
          page = is.page;
          extents = is.extents;
          has_shard = is.has_shard;
          before = less;
          names = is.names;
        })
        | inr same ↦
            let one = only d is.object is.page is.extents is.has_shard same in
            inr (one.0, subst (Names sbid) (sym one.1) is.names)
      ]

      abbrev Known : ℕ → Option (List ℕ) → Type 0
      Known sbid r = MatchOption r ((x : List ℕ) → ¬ NamesSoFar w rows (IsUpTo (shard_key c o page)) sbid x) (NamesFirst w rows (IsUpTo (shard_key c o page)) sbid)

      pub shard_passed : (m : Namers) → AreNamersSoFar w rows (IsBelow (shard_key c o page)) m
          → AreNamersSoFar w rows (IsUpTo (shard_key c o page)) (all_named c m es)
      shard_passed m are sbid low = by (map.get m (shared_key sbid)) refl (are sbid low)
        where
          with_es : NamedWith c (map.get m (shared_key sbid)) (map.get (all_named c m es) (shared_key sbid)) (Names sbid es)
          with_es = extents_named c sbid low m w es has.fits.fit

          by : (r : Option (List ℕ)) → map.get m (shared_key sbid) ≡ r
              → MatchOption r ((x : List ℕ) → ¬ NamesSoFar w rows (IsBelow (shard_key c o page)) sbid x) (NamesFirst w rows (IsBelow (shard_key c o page)) sbid)
              → Known sbid (map.get (all_named c m es) (shared_key sbid))
          by None is none = elim (names_or_not sbid es) [
            | inl names ↦ subst (Known sbid) (sym (with_es.added is names)) (record {
              names = here sbid names;
              first = λ d so_far. elim (before_or_here sbid d so_far) [
                | inl before ↦ absurd (none d before)
                | inr one ↦ subst (λ (x : List ℕ). byte_order x c ≢ Less) one.0 (itself_up_to c)
              ];
            })
            | inr other ↦ subst (Known sbid) (sym (with_es.none is other))
                (λ d so_far. elim (before_or_here sbid d so_far) [ inl before ↦ none d before | inr one ↦ other one.1 ])
          ]
          by (Some d) is first = subst (Known sbid) (sym (with_es.kept d is)) (record {
            names = wider sbid d first.names;
            first = λ e so_far. elim (before_or_here sbid e so_far) [
              | inl before ↦ first.first e before
              | inr one ↦ subst (λ (x : List ℕ). byte_order x d ≢ Less) one.0 (before_here sbid d first.names)
            ];
          })
