-- Where no row is bad each blob that shards name has a home: a shard that names it is found among the rows, and each other is of the same
-- collection, since neither comes before the other.
use Rattle.std.proofs.Common.{◌≡◌, ◌⊎◌, inl, inr, ℕ, zero, suc, ◌<◌, ◌^◌, List, [], ◌∷◌, Option, Some, None, cond, refl, sym, ap, subst, ◌∙◌, arith}
use Rattle.std.specs.Prelude.{Any}
use Rattle.std.specs.List.{AllByRecursion}
use Rattle.std.specs.Ordering.{is_eq}
use Rattle.std.specs.declared.cmp.Ordering.TheVariants.{Less, Equal, Greater}
use Rattle.std.specs.Cmp.Lexicographic.{nat_list_cmp_total}
use Rattle.std.specs.Ordering.{ordering_reverse}
use Rattle.std.specs.FinMap.Entries.{find}
use Rattle.std.specs.FinMap as finite
use Rattle.byte_maps.specs.ByteMap.{byte_order}
use Rattle.byte_maps.proofs.Prelude.{same_bytes}
use Rattle.unit_fields.specs.declared.width.Width.{Width}
use Rattle.meta_rows.specs.Prelude.{Rows}
use Rattle.meta_log.specs.declared.slot.Super.{Super}
use Rattle.meta_log.specs.Prelude.{width_of}
use Rattle.row_format.specs.Prelude.{Body, private, shared, FitsBody, FitsExtent, NamesBlob, ShardRow, as_row, shard_in, no_shard, row_key, row_value, FitsRow, shard, shard_key, shared_key}
use Rattle.row_format.proofs.Prelude.{same_row, is_shard_or_none}
use Rattle.store_image.specs.Prelude.{HasKey, IsNamedBy, IsNamedEarlier, HasSlots, IsGoodRow, NoBadRow}
use Rattle.store_image.proofs.Prelude.{number_cases, in_place}
use Rattle.plan_rows.specs.Prelude.{AreAtHome}

-- ---- some of a list

pub any_case : {X : Type 0} (P : X → Type 0) (x : X) (xs : List X) → Any P (x ∷ xs) → P x ⊎ Any P xs
any_case P x xs (zero, y, within, is, p) = inl (subst P (sym is) p)
any_case P x xs (suc k, y, within, is, p) = inr (k, y, omega (arith, within), is, p)

pub any_by : {X : Type 0} (P : X → Type 0) (x : X) (xs : List X) → P x ⊎ Any P xs → Any P (x ∷ xs)
any_by P x xs (inl p) = (0, x, omega arith, refl, p)
any_by P x xs (inr (k, y, within, is, p)) = (suc k, y, omega (arith, within), is, p)

pub any_or_none : {X : Type 0} (P : X → Type 0) → ((x : X) → P x ⊎ ¬ P x) → (xs : List X) → Any P xs ⊎ ¬ Any P xs
any_or_none P decide [] = inr (λ any. omega (arith, any.2))
any_or_none P decide (x ∷ xs) = elim (decide x) [
  | inl p ↦ inl (any_by P x xs (inl p))
  | inr not ↦ elim (any_or_none P decide xs) [
    | inl any ↦ inl (any_by P x xs (inr any))
    | inr none ↦ inr (λ any. elim (any_case P x xs any) [ inl p ↦ not p | inr later ↦ none later ])
  ]
]

pub both_hold : {X : Type 0} (P Q : X → Type 0) (xs : List X) → AllByRecursion P xs → Any Q xs → (x : X) × P x × Q x
both_hold P Q [] all any = absurd (omega (arith, any.2))
both_hold P Q (x ∷ xs) all any = elim (any_case Q x xs any) [
  | inl q ↦ (x, all.0, q)
  | inr later ↦ both_hold P Q xs all.1 later
]

-- ---- some of the rows

-- of what is decided for each row it is decided whether it is so for some
module _ (rows : Rows) (Q : Type 0) (P : List ℕ → Type 0)
    (decide : (key value : List ℕ) → finite.get rows key ≡ Some value → Q ⊎ ¬ P key) where
  abbrev IsNone : List (List ℕ × List ℕ) → Type 0
  IsNone es = (key value among : List ℕ) → finite.get rows key ≡ Some value → find byte_order key es ≡ Some among → ¬ P key

  none_more : (e : List ℕ × List ℕ) (es : List (List ℕ × List ℕ)) → ((value : List ℕ) → finite.get rows e.0 ≡ Some value → ¬ P e.0) → IsNone es
      → IsNone (e ∷ es)
  none_more e es first later key value among is =
      elim (byte_order key e.0) as (λ r. byte_order key e.0 ≡ r → cond (is_eq r) (Some e.1) (find byte_order key es) ≡ Some among → ¬ P key) [
        | Less ↦ λ p found. later key value among is found
        | Equal ↦ λ p found.
            let same = same_bytes key e.0 p in
            subst (λ k. ¬ P k) (sym same) (first value (subst (λ k. finite.get rows k ≡ Some value) same is))
        | Greater ↦ λ p found. later key value among is found
      ] refl

  among_these : (es : List (List ℕ × List ℕ)) → Q ⊎ IsNone es
  among_these [] = inr (λ key value among is found. absurd cc)
  among_these (e ∷ es) = by (finite.get rows e.0) refl (among_these es)
    where
      by : (held : Option (List ℕ)) → finite.get rows e.0 ≡ held → Q ⊎ IsNone es → Q ⊎ IsNone (e ∷ es)
      by held is (inl q) = inl q
      by None is (inr none) = inr (none_more e es (λ value there. absurd (let t = sym is ∙ there in cc)) none)
      by (Some value) is (inr none) = elim (decide e.0 value is) [
        | inl q ↦ inl q
        | inr not ↦ inr (none_more e es (λ v there. not) none)
      ]

  some_or_none : Q ⊎ ((key value : List ℕ) → finite.get rows key ≡ Some value → ¬ P key)
  some_or_none = elim (among_these (finite.entries rows)) [
    | inl q ↦ inl q
    | inr none ↦ inr (λ key value is. none key value value is (sym (finite.get-entries rows key) ∙ is))
  ]

-- ---- blobs

names_or_not : (sbid : ℕ) (b : Body) → NamesBlob sbid b ⊎ ¬ NamesBlob sbid b
names_or_not sbid (private unit csums) = inr (λ no. no)
names_or_not sbid (shared other first count) = number_cases other sbid

-- the number of a blob that a shard names fits its field
pub named_low : (w : Width) (rows : Rows) (c : List ℕ) (sbid : ℕ) → IsNamedBy w rows c sbid → sbid < 2 ^ 64
named_low w rows c sbid named =
    let found = both_hold (FitsExtent w) (λ e. NamesBlob sbid e.body) named.extents named.has_shard.fits.fit named.names in
    here found.0.body found.1.body found.2
  where
    here : (b : Body) → FitsBody w b → NamesBlob sbid b → sbid < 2 ^ 64
    here (private unit csums) fits names = absurd names
    here (shared other first count) fits names = omega (arith, fits.0, names)

-- no earlier collection names a blob whose slots the collection has
not_earlier : (w : Width) (rows : Rows) (c : List ℕ) (sbid : ℕ) (b : Body) → HasSlots w rows c b → NamesBlob sbid b → ¬ IsNamedEarlier w rows c sbid
not_earlier w rows c sbid (private unit csums) has names = absurd names
not_earlier w rows c sbid (shared other first count) has names = subst (λ n. ¬ IsNamedEarlier w rows c n) names has.2

-- the blob has a row
held_there : (w : Width) (rows : Rows) (c : List ℕ) (sbid : ℕ) (b : Body) → HasSlots w rows c b → NamesBlob sbid b → HasKey rows (shared_key sbid)
held_there w rows c sbid (private unit csums) has names = absurd names
held_there w rows c sbid (shared other first count) has names = subst (λ n. HasKey rows (shared_key n)) names has.0

-- so, where no row is bad, it has one if a shard names it
pub named_there : (s : Super) (rows : Rows) → NoBadRow s rows → (c : List ℕ) (sbid : ℕ) → IsNamedBy (width_of s) rows c sbid
    → HasKey rows (shared_key sbid)
named_there s rows good c sbid named =
    let placed = in_place s rows (shard c named.object named.page named.extents) good named.has_shard in
    let found = both_hold (λ e. HasSlots (width_of s) rows c e.body) (λ e. NamesBlob sbid e.body) named.extents placed.slots named.names in
    held_there (width_of s) rows c sbid found.0.body found.1 found.2

module _ (s : Super) (rows : Rows) (good : NoBadRow s rows) (sbid : ℕ) where
  abbrev w : Width
  w = width_of s

  -- the key is that of a shard that names the blob
  abbrev Tells : List ℕ → Type 0
  Tells key = (c : List ℕ) × ((named : IsNamedBy w rows c sbid) × (key ≡ shard_key c named.object named.page))

  told : (key value : List ℕ) → finite.get rows key ≡ Some value → ((c : List ℕ) × IsNamedBy w rows c sbid) ⊎ ¬ Tells key
  told key value is = elim (any_or_none (λ e. NamesBlob sbid e.body) (λ e. names_or_not sbid e.body) said.extents) [
    | inl names ↦ inl (said.coll, named names (is_shard_or_none found.row))
    | inr none ↦ inr (λ tells. none (subst (Any (λ e. NamesBlob sbid e.body)) (ap (λ r. (shard_in r).extents) (same tells)) tells.1.0.names))
  ]
    where
      found : IsGoodRow s rows key value
      found = good key value is

      said : ShardRow
      said = shard_in found.row

      named : Any (λ e. NamesBlob sbid e.body) said.extents → (found.row ≡ as_row said) ⊎ (said ≡ no_shard) → IsNamedBy w rows said.coll sbid
      named names (inl row_is) = record {
        object = said.object;
        page = said.page;
        extents = said.extents;
        has_shard = record {
          fits = subst (FitsRow w) row_is found.fits;
          stands = ap (λ k. finite.get rows k) (ap row_key (sym row_is) ∙ sym found.key_is) ∙ is ∙ ap Some (found.value_is ∙ ap (row_value w) row_is);
        };
        names = names;
      }
      named names (inr none) = absurd (omega (arith, (subst (λ x. Any (λ e. NamesBlob sbid e.body) x.extents) none names).2))

      same : (tells : Tells key) → shard tells.0 tells.1.0.object tells.1.0.page tells.1.0.extents ≡ found.row
      same tells =
          let has = tells.1.0.has_shard in
          let stands : Some value ≡ Some (row_value w (shard tells.0 tells.1.0.object tells.1.0.page tells.1.0.extents)) =
          sym is ∙ ap (λ k. finite.get rows k) tells.1.1 ∙ has.stands in
          let value_is : value ≡ row_value w (shard tells.0 tells.1.0.object tells.1.0.page tells.1.0.extents) = cc in
          same_row w (shard tells.0 tells.1.0.object tells.1.0.page tells.1.0.extents) found.row has.fits found.fits (sym tells.1.1 ∙ found.key_is)
          (sym value_is ∙ found.value_is)

  -- a shard names the blob, or none does
  named_or_not : ((c : List ℕ) × IsNamedBy w rows c sbid) ⊎ ((c : List ℕ) → ¬ IsNamedBy w rows c sbid)
  named_or_not = elim (some_or_none rows ((c : List ℕ) × IsNamedBy w rows c sbid) Tells told) [
    | inl some ↦ inl some
    | inr none ↦ inr (λ c named. none (shard_key c named.object named.page) _ named.has_shard.stands (c, (named, refl)))
  ]

  -- where shards of two collections name it, neither comes before the other
  one_home : (c d : List ℕ) → IsNamedBy w rows c sbid → IsNamedBy w rows d sbid → c ≡ d
  one_home c d mine theirs = elim (byte_order c d) as (λ r. byte_order c d ≡ r → c ≡ d) [
    | Less ↦ λ p. absurd (none d theirs (record { coll = c; before = p; named = mine }))
    | Equal ↦ λ p. same_bytes c d p
    | Greater ↦ λ p. absurd (none c mine (record { coll = d; before = nat_list_cmp_total.antisymm d c ∙ ap ordering_reverse p; named = theirs }))
  ] refl
    where
      none : (c : List ℕ) (named : IsNamedBy w rows c sbid) → ¬ IsNamedEarlier w rows c sbid
      none c named =
          let placed = in_place s rows (shard c named.object named.page named.extents) good named.has_shard in
          let found = both_hold (λ e. HasSlots w rows c e.body) (λ e. NamesBlob sbid e.body) named.extents placed.slots named.names in
          not_earlier w rows c sbid found.0.body found.1 found.2

  a_home : (home : List ℕ) × ((c : List ℕ) → IsNamedBy w rows c sbid → home ≡ c)
  a_home = elim named_or_not [
    | inl some ↦ (some.0, λ c named. one_home some.0 c some.1 named)
    | inr none ↦ ([], λ c named. absurd (none c named))
  ]

pub have_homes : (s : Super) (rows : Rows) → NoBadRow s rows → (home : ℕ → List ℕ) × AreAtHome (width_of s) home rows
have_homes s rows good = (λ sbid. (a_home s rows good sbid).0, λ c sbid named. (a_home s rows good sbid).1 c named)
