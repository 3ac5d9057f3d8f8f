-- Rows gone through in the order of their keys.
use Rattle.std.proofs.Common.{◌≡◌, ◌≢◌, ◌↔◌, ◌⊎◌, ℕ, ◌+◌, ◌<◌, ◌≤◌, inl, inr, Bool, true, false, IsTrue, List, [], ◌∷◌, ◌++◌, length, get_or, Option, Some, None, MatchOption, refl, sym, ap, subst, ◌∙◌, arith}
use Rattle.std.specs.Prelude.{IfSome}
use Rattle.std.specs.List.{AllByRecursion}
use Rattle.std.specs.declared.cmp.Ordering.TheVariants.{Less}
use Rattle.std.specs.FinMap as map
use Rattle.std.proofs.lemmas.Bool.{cases_lt}
use Rattle.byte_maps.specs.ByteMap.{byte_order}
use Rattle.unit_fields.specs.declared.width.Width.{Width}
use Rattle.meta_rows.specs.Prelude.{Rows}
use Rattle.meta_log.specs.declared.slot.Super.{Super}
use Rattle.meta_log.specs.Prelude.{width_of}
use Rattle.row_format.specs.Prelude.{shard_key, Extent, page_end, shard}
use Rattle.row_format.specs.Row as format
use Rattle.row_format.proofs.Prelude.{same_row}
use Rattle.store_image.specs.Prelude.{HasRow, HasShard, IsInPlace, IsGoodRow, IsBadRow, NoBadRow}
use Rattle.ordered_lists.specs.Lists.{ListsAll}
use Rattle.ordered_lists.proofs.Joining.{lists_none, lists_one, lists_as, lists_joined}
use Rattle.row_reading.proofs.Entries.{rising, StandsAt, entry_is, AreRows}
use Rattle.row_reading.specs.declared.row.Row.{Row}
use Rattle.row_reading.specs.declared.row.Row.TheVariants as read
use Rattle.row_reading.specs.Reading.{format_row, SpellsRow, IsNoRow}
use Rattle.row_check.specs.declared.passed.Passed.{Passed}
use Rattle.row_check.specs.Bad.{IsLeastBad, IsRowJudged, IsFirst, IsLast, ShardsEndAt, Knows, IsBelow, IsUpTo, EndsWith}
use Rattle.row_check.specs.Named.{Namers, AreNamersSoFar, all_named, row_named}
use Rattle.row_check.proofs.Named.{not_less_back, below_or_same, itself_up_to, none_named, namers_as, shard_passed}
use Rattle.row_check.proofs.Shards.{earlier_ends, all_end, no_good}

-- ---- rows that are spelled

-- an entry that spells a row is one of the rows
pub has_spelled : (w : Width) (rows : Rows) (es : List (List ℕ × List ℕ)) → AreRows rows es → (j : ℕ) (d : List ℕ × List ℕ) (r : format.Row)
    → j < length es
    → SpellsRow w (get_or es j d).0 (get_or es j d).1 r → HasRow w rows r
has_spelled w rows es are j d r l spells =
    record { fits = spells.fits; stands = ap (λ k. map.get rows k) (sym spells.key_is) ∙ are.has j d l ∙ ap Some spells.value_is }

-- ---- what is known goes with the keys of rows

module _ (s : Super) (rows : Rows) (B C : List ℕ → Type 0) (same : (r : format.Row) → HasRow (width_of s) rows r → B (format.row_key r) ↔ C (format.row_key r)) where
  last_as : (last : Option Row) → MatchOption last (IsFirst (width_of s) rows B) (λ row. (value : List ℕ) × IsLast (width_of s) rows B (format_row row value))
      → MatchOption last (IsFirst (width_of s) rows C) (λ row. (value : List ℕ) × IsLast (width_of s) rows C (format_row row value))
  last_as None first = λ r has is. first r has ((same r has).1 is)
  last_as (Some row) is = (
    is.0,
    record {
      has = is.1.has;
      before = (same _ is.1.has).0 is.1.before;
      last = λ other has before. is.1.last other has ((same other has).1 before);
    },
  )

  end_as : (last : Option Row) (end : ℕ) → ShardsEndAt (width_of s) rows B last end → ShardsEndAt (width_of s) rows C last end
  end_as None end is = tt
  end_as (Some (read.Collection d)) end is = tt
  end_as (Some (read.Onode d u size)) end is = tt
  end_as (Some (read.Attribute d u n)) end is = tt
  end_as (Some (read.OmapHeader d u)) end is = tt
  end_as (Some (read.OmapPair d u k)) end is = tt
  end_as (Some (read.Blob sbid first slots)) end is = tt
  end_as (Some (read.Bitmap r bits)) end is = tt
  end_as (Some (read.Shard d u q fs)) end is = λ page. (
    λ le first es has before. (is page).0 le first es has ((same (shard d u first es) has).1 before),
    λ each. (is page).1 (λ first es has before. each first es has ((same (shard d u first es) has).0 before)),
  )

  pub knows_as : (p : Passed) → Knows s rows B p → Knows s rows C p
  knows_as p knows = record {
    last_is = last_as p.last knows.last_is;
    placed = knows.placed;
    end_is = end_as p.last p.end knows.end_is;
    namers = namers_as (width_of s) rows B C (λ c o page es has. same (shard c o page es) has) p.namers knows.namers;
  }

-- ---- a row is passed

module _ (s : Super) (rows : Rows) (key value : List ℕ) (stands : map.get rows key ≡ Some value) where
  -- a row of the table under this key is what it spells
  spelled_here : (r : format.Row) → HasRow (width_of s) rows r → key ≡ format.row_key r → SpellsRow (width_of s) key value r
  spelled_here r has is =
      let two : Some value ≡ Some (format.row_value (width_of s) r) = sym stands ∙ ap (λ k. map.get rows k) is ∙ has.stands in
      record { fits = has.fits; key_is = is; value_is = cc }

  -- it is none of the table
  pub passed_by : (p : Passed) → IsNoRow (width_of s) key value → Knows s rows (IsBelow key) p → Knows s rows (IsUpTo key) p
  passed_by p none = knows_as s rows (IsBelow key) (IsUpTo key) (λ r has. (
    λ less. not_less_back (format.row_key r) key less,
    λ up. elim (below_or_same (format.row_key r) key up) [ inl less ↦ less | inr is ↦ absurd (none r (spelled_here r has is)) ],
  )) p

  module _ (row : Row) (spells : SpellsRow (width_of s) key value (format_row row value)) where
    has_row : HasRow (width_of s) rows (format_row row value)
    has_row = record { fits = spells.fits; stands = ap (λ k. map.get rows k) (sym spells.key_is) ∙ stands ∙ ap Some spells.value_is }

    last_here : IsLast (width_of s) rows (IsUpTo key) (format_row row value)
    last_here = record {
      has = has_row;
      before = subst (λ k. byte_order key k ≢ Less) spells.key_is (itself_up_to key);
      last = λ other has up. subst (λ k. byte_order k (format.row_key other) ≢ Less) spells.key_is up;
    }

    same_here : (r : format.Row) → HasRow (width_of s) rows r → key ≡ format.row_key r → format_row row value ≡ r
    same_here r has is =
        let also = spelled_here r has is in
        same_row (width_of s) (format_row row value) r spells.fits has.fits (sym spells.key_is ∙ is) (sym spells.value_is ∙ also.value_is)

  -- pages of a shard
  abbrev EndsBy : ℕ → format.Row → Type 0
  EndsBy n (format.shard c o first es) = AllByRecursion (λ e. page_end e ≤ n) es
  EndsBy n _ = Unit {0}

  shards_end : (row : Row) (p : Passed) (end : ℕ) → SpellsRow (width_of s) key value (format_row row value) → Knows s rows (IsBelow key) p → EndsWith p row end
      → ShardsEndAt (width_of s) rows (IsUpTo key) (Some row) end
  shards_end (read.Collection d) p end spells knows with_row = tt
  shards_end (read.Onode d u size) p end spells knows with_row = tt
  shards_end (read.Attribute d u n) p end spells knows with_row = tt
  shards_end (read.OmapHeader d u) p end spells knows with_row = tt
  shards_end (read.OmapPair d u k) p end spells knows with_row = tt
  shards_end (read.Blob sbid first slots) p end spells knows with_row = tt
  shards_end (read.Bitmap r bits) p end spells knows with_row = tt
  shards_end (read.Shard c o page es) p end spells knows with_row =
      let here : Knows s rows (IsBelow (shard_key c o page)) p = subst (λ (k : List ℕ). Knows s rows (IsBelow k) p) spells.key_is knows in
      let coll = spells.fits.coll_name in
      let name = spells.fits.object_name in
      let low = spells.fits.page_below in
      let row : Row = read.Shard c o page es in
      λ n. (
        λ le first fs has up. elim (below_or_same (shard_key c o first) key up) [
          | inl less ↦ earlier_ends s rows c o page coll name low p here n first fs has (subst (λ k. byte_order (shard_key c o first) k ≡ Less) spells.key_is less) ((with_row n).0 le).0
          | inr is ↦ subst (EndsBy n) (same_here (read.Shard c o page es) spells (shard c o first fs) has is) ((with_row n).0 le).1
        ],
        λ each. (with_row n).1 (
          all_end s rows c o page coll name low p here n
              (λ first fs has less. each first fs has (not_less_back (shard_key c o first) key (subst (λ k. byte_order (shard_key c o first) k ≡ Less) (sym spells.key_is) less))),
          each page es (has_row (read.Shard c o page es) spells) (subst (λ k. byte_order key k ≢ Less) spells.key_is (itself_up_to key)),
        ),
      )

  -- a row that is no shard names nothing
  none_more : (row : Row) → SpellsRow (width_of s) key value (format_row row value)
      → ((c o : List ℕ) (page : ℕ) (es : List Extent) → format_row row value ≡ shard c o page es → ⊥)
      → (m : Namers) → AreNamersSoFar (width_of s) rows (IsBelow key) m → AreNamersSoFar (width_of s) rows (IsUpTo key) m
  none_more row spells none = namers_as (width_of s) rows (IsBelow key) (IsUpTo key) (λ c o page es has. (
    λ less. not_less_back (shard_key c o page) key less,
    λ up. elim (below_or_same (shard_key c o page) key up) [
      | inl less ↦ less
      | inr is ↦ absurd (none c o page es (same_here row spells (shard c o page es) has is))
    ],
  ))

  namers_end : (row : Row) → SpellsRow (width_of s) key value (format_row row value) → (m : Namers)
      → AreNamersSoFar (width_of s) rows (IsBelow key) m → AreNamersSoFar (width_of s) rows (IsUpTo key) (row_named m row)
  namers_end (read.Collection d) spells m are = none_more (read.Collection d) spells (λ c o page es e. cc) m are
  namers_end (read.Onode d u size) spells m are = none_more (read.Onode d u size) spells (λ c o page es e. cc) m are
  namers_end (read.Attribute d u n) spells m are = none_more (read.Attribute d u n) spells (λ c o page es e. cc) m are
  namers_end (read.OmapHeader d u) spells m are = none_more (read.OmapHeader d u) spells (λ c o page es e. cc) m are
  namers_end (read.OmapPair d u k) spells m are = none_more (read.OmapPair d u k) spells (λ c o page es e. cc) m are
  namers_end (read.Blob sbid first slots) spells m are = none_more (read.Blob sbid first slots) spells (λ c o page es e. cc) m are
  namers_end (read.Bitmap r bits) spells m are = none_more (read.Bitmap r bits) spells (λ c o page es e. cc) m are
  namers_end (read.Shard c o page es) spells m are =
      let row : Row = read.Shard c o page es in
      let here = subst (λ (k : List ℕ). AreNamersSoFar (width_of s) rows (IsBelow k) m) spells.key_is are in
      let has : HasShard (width_of s) rows c o page es = has_row row spells in
      subst (λ (k : List ℕ). AreNamersSoFar (width_of s) rows (IsUpTo k) (all_named c m es)) (sym spells.key_is)
      (shard_passed (width_of s) rows c o page spells.fits.coll_name es has (λ d u q fs there is.
      let one : shard c o page es ≡ shard d u q fs = same_here row spells (shard d u q fs) there (spells.key_is ∙ is) in
      (ap (λ (r : format.Row). (format.shard_in r).coll) one, ap (λ (r : format.Row). (format.shard_in r).extents) one)) m here)

  pub passed_row : (row : Row) (p q : Passed) (fits : Bool) → SpellsRow (width_of s) key value (format_row row value) → Knows s rows (IsBelow key) p
      → ((v : List ℕ) → IsTrue fits ↔ IsInPlace s rows (format_row row v)) → q.last ≡ Some row → q.in_place ≡ fits → EndsWith p row q.end
      → q.namers ≡ row_named p.namers row → Knows s rows (IsUpTo key) q
  passed_row row p q fits spells knows decided last placed end named = record {
    last_is = subst (λ (l : Option Row). MatchOption l (IsFirst (width_of s) rows (IsUpTo key)) (λ row. (value : List ℕ) × IsLast (width_of s) rows (IsUpTo key) (format_row row value)))
        (sym last) (value, last_here row spells);
    placed = λ is. subst (λ (l : Option Row). IfSome l (λ row. (value : List ℕ) → IsInPlace s rows (format_row row value))) (sym last) (λ v. (decided v).0 (sym placed ∙ is));
    end_is = subst (λ (l : Option Row). ShardsEndAt (width_of s) rows (IsUpTo key) l q.end) (sym last) (shards_end row p q.end spells knows end);
    namers = subst (AreNamersSoFar (width_of s) rows (IsUpTo key)) (sym named) (namers_end row spells p.namers knows.namers);
  }

-- whether the row is good, by its place
pub judged_by : (s : Super) (rows : Rows) (key value : List ℕ) (r : format.Row) (fits : Bool) → SpellsRow (width_of s) key value r → (IsTrue fits ↔ IsInPlace s rows r)
    → IsRowJudged s rows key value fits
judged_by s rows key value r fits spells decided = (
  λ yes. record { row = r; fits = spells.fits; key_is = spells.key_is; value_is = spells.value_is; in_place = decided.0 yes },
  λ good. by fits decided good,
)
  where
    by : (b : Bool) → (IsTrue b ↔ IsInPlace s rows r) → IsGoodRow s rows key value → IsTrue b
    by true decided good = refl
    by false decided good = absurd (no_good s rows key value r spells (λ place. let never : false ≡ true = decided.1 place in cc) good)

-- ---- the rows before a place

-- the key is that of a row before this place
abbrev pub InFirst : List (List ℕ × List ℕ) → ℕ → List ℕ → Type 0
InFirst es i k = (value : List ℕ) × (at : StandsAt es k value) × (at.at < i)

pub at_start : (s : Super) (rows : Rows) (es : List (List ℕ × List ℕ)) → Knows s rows (InFirst es 0) (record { last = None; in_place = false; end = 0; namers = map.empty })
at_start s rows es = record {
  last_is = λ r has is. absurd (omega (arith, is.2));
  placed = λ never. tt;
  end_is = tt;
  namers = none_named (width_of s) rows (InFirst es 0) (λ r has is. omega (arith, is.2));
}

pub none_bad_yet : (s : Super) (rows : Rows) (es : List (List ℕ × List ℕ)) → ListsAll (λ a b. byte_order a b ≡ Less) (λ n. IsBadRow s rows n × InFirst es 0 n) []
none_bad_yet s rows es = lists_none (λ (a b : List ℕ). byte_order a b ≡ Less) (λ n. IsBadRow s rows n × InFirst es 0 n) (λ n is. omega (arith, is.1.2))

module _ (s : Super) (rows : Rows) (es : List (List ℕ × List ℕ)) (are : AreRows rows es) (i : ℕ) where
  key_of : (k value : List ℕ) (at : StandsAt es k value) (d : List ℕ × List ℕ) → (get_or es at.at d).0 ≡ k
  key_of k value at d = ap (λ (e : List ℕ × List ℕ). e.0) (at.is d)

  before_here : (d : List ℕ × List ℕ) (k : List ℕ) → i < length es → InFirst es i k → byte_order k (get_or es i d).0 ≡ Less
  before_here d k within is =
      subst (λ x. byte_order x (get_or es i d).0 ≡ Less) (key_of k is.0 is.1 d) (rising es is.1.at i d d are.sorted is.2 within)

  -- a row whose key is below that of this place stands before it
  here_before : (d : List ℕ × List ℕ) (k value : List ℕ) → i < length es → map.get rows k ≡ Some value → byte_order k (get_or es i d).0 ≡ Less → InFirst es i k
  here_before d k value within stands less =
      let at = are.stands k value stands in (
        value,
        at,
        elim (cases_lt at.at i) [
          | inl lt ↦ lt
          | inr ge ↦ elim (cases_lt i at.at) [
            | inl gt ↦ absurd (not_less_back k (get_or es i d).0 less
                (subst (λ x. byte_order (get_or es i d).0 x ≡ Less) (key_of k value at d) (rising es i at.at d d are.sorted gt at.within)))
            | inr le ↦ absurd (
                let here : at.at ≡ i = omega (arith, ge, le) in
                let is : (get_or es i d).0 ≡ k = ap (λ n. (get_or es n d).0) (sym here) ∙ key_of k value at d in
                itself_up_to k (subst (λ x. byte_order k x ≡ Less) is less))
          ]
        ],
      )

  up_to_here : (d : List ℕ × List ℕ) (k value : List ℕ) → i < length es → map.get rows k ≡ Some value → byte_order (get_or es i d).0 k ≢ Less → InFirst es (i + 1) k
  up_to_here d k value within stands up =
      let at = are.stands k value stands in (
        value,
        at,
        elim (cases_lt at.at (i + 1)) [
          | inl lt ↦ lt
          | inr ge ↦ absurd (up (subst (λ x. byte_order (get_or es i d).0 x ≡ Less) (key_of k value at d) (rising es i at.at d d are.sorted (omega (arith, ge)) at.within)))
        ],
      )

  here_up_to : (d : List ℕ × List ℕ) (k : List ℕ) → i < length es → InFirst es (i + 1) k → byte_order (get_or es i d).0 k ≢ Less
  here_up_to d k within is = elim (cases_lt is.1.at i) [
    | inl lt ↦ not_less_back k (get_or es i d).0 (before_here d k within (is.0, is.1, lt))
    | inr ge ↦
        let here : is.1.at ≡ i = omega (arith, ge, is.2) in
        let same : (get_or es i d).0 ≡ k = ap (λ n. (get_or es n d).0) (sym here) ∙ key_of k is.0 is.1 d in
        subst (λ x. byte_order (get_or es i d).0 x ≢ Less) same (itself_up_to (get_or es i d).0)
  ]

  -- what is known at a place, and behind it
  knows_here : (d : List ℕ × List ℕ) (p : Passed) → i < length es → Knows s rows (InFirst es i) p → Knows s rows (IsBelow (get_or es i d).0) p
  knows_here d p within = knows_as s rows (InFirst es i) (IsBelow (get_or es i d).0)
      (λ r has. (before_here d (format.row_key r) within, here_before d (format.row_key r) _ within has.stands)) p

  knows_behind : (d : List ℕ × List ℕ) (p : Passed) → i < length es → Knows s rows (IsUpTo (get_or es i d).0) p → Knows s rows (InFirst es (i + 1)) p
  knows_behind d p within = knows_as s rows (IsUpTo (get_or es i d).0) (InFirst es (i + 1))
      (λ r has. (up_to_here d (format.row_key r) _ within has.stands, here_up_to d (format.row_key r) within)) p

  -- the same as a loop sees its row
  module _ (x : List ℕ × List ℕ) (key value : List ℕ) (within : i < length es) (is : x ≡ get_or es i x) (k : key ≡ x.0) (v : value ≡ x.1) where
    pair : (d : List ℕ × List ℕ) → get_or es i d ≡ (key, value)
    pair = entry_is es i x key value within is k v

    key_is : (get_or es i x).0 ≡ key
    key_is = ap (λ (e : List ℕ × List ℕ). e.0) (pair x)

    pub stands_here : map.get rows key ≡ Some value
    stands_here = ap (λ n. map.get rows n) (sym key_is) ∙ are.has i x within ∙ ap (λ (e : List ℕ × List ℕ). Some e.1) (pair x)

    pub step_to : (p : Passed) → Knows s rows (InFirst es i) p → Knows s rows (IsBelow key) p
    step_to p knows = subst (λ (n : List ℕ). Knows s rows (IsBelow n) p) key_is (knows_here x p within knows)

    pub step_on : (p : Passed) → Knows s rows (IsUpTo key) p → Knows s rows (InFirst es (i + 1)) p
    step_on p knows = knows_behind x p within (subst (λ (n : List ℕ). Knows s rows (IsUpTo n) p) (sym key_is) knows)

    below_here : (n : List ℕ) → InFirst es i n → byte_order n key ≡ Less
    below_here n first = subst (λ m. byte_order n m ≡ Less) key_is (before_here x n within first)

    here : InFirst es (i + 1) key
    here = (value, record { at = i; within = within; is = pair }, omega arith)

    first_or_here : (n : List ℕ) → InFirst es (i + 1) n → InFirst es i n ⊎ (key ≡ n)
    first_or_here n first = elim (cases_lt first.1.at i) [
      | inl lt ↦ inl (first.0, first.1, lt)
      | inr ge ↦
          let at : first.1.at ≡ i = omega (arith, ge, first.2) in
          inr (sym key_is ∙ ap (λ m. (get_or es m x).0) (sym at) ∙ key_of n first.0 first.1 x)
    ]

    -- each row so far is good, or this one is the first bad one
    pub good_on : ((n w : List ℕ) → InFirst es i n → map.get rows n ≡ Some w → IsGoodRow s rows n w) → IsGoodRow s rows key value
        → (n w : List ℕ) → InFirst es (i + 1) n → map.get rows n ≡ Some w → IsGoodRow s rows n w
    good_on good this n w first stands = elim (first_or_here n first) [
      | inl before ↦ good n w before stands
      | inr same ↦
          let two : Some value ≡ Some w = sym stands_here ∙ ap (λ m. map.get rows m) same ∙ stands in
          let values : value ≡ w = cc in
          subst (IsGoodRow s rows n) values (subst (λ m. IsGoodRow s rows m value) same this)
    ]

    pub first_bad : ((n w : List ℕ) → InFirst es i n → map.get rows n ≡ Some w → IsGoodRow s rows n w) → ¬ (IsGoodRow s rows key value) → IsLeastBad s rows key
    first_bad good bad = record {
      bad = record { value = value; stands = stands_here; is_not_good = bad };
      before = λ n w less stands. good n w (here_before x n w within stands (subst (λ m. byte_order n m ≡ Less) (sym key_is) less)) stands;
    }

    -- the bad ones so far, and this one
    abbrev BadFirst : ℕ → List ℕ → Type 0
    BadFirst j n = IsBadRow s rows n × InFirst es j n

    pub one_more_bad : (keys : List (List ℕ)) → ListsAll (λ a b. byte_order a b ≡ Less) (BadFirst i) keys → ¬ (IsGoodRow s rows key value)
        → ListsAll (λ a b. byte_order a b ≡ Less) (BadFirst (i + 1)) (keys ++ key ∷ [])
    one_more_bad keys so_far bad =
        let this : IsBadRow s rows key = record { value = value; stands = stands_here; is_not_good = bad } in
        lists_joined (λ a b. byte_order a b ≡ Less) (BadFirst i) (λ n. key ≡ n) (BadFirst (i + 1)) keys (key ∷ []) so_far
        (lists_one (λ a b. byte_order a b ≡ Less) (λ n. key ≡ n) key refl (λ n same. same))
        (λ n m first same. subst (λ y. byte_order n y ≡ Less) same (below_here n first.1))
        (λ n first. (first.0, (first.1.0, first.1.1, omega (arith, first.1.2))))
        (λ n same. subst (BadFirst (i + 1)) same (this, here))
        (λ n first. elim (first_or_here n first.1) [ inl before ↦ inl (first.0, before) | inr same ↦ inr same ])

    pub no_more_bad : (keys : List (List ℕ)) → ListsAll (λ a b. byte_order a b ≡ Less) (BadFirst i) keys → IsGoodRow s rows key value
        → ListsAll (λ a b. byte_order a b ≡ Less) (BadFirst (i + 1)) keys
    no_more_bad keys so_far good =
        lists_as (λ a b. byte_order a b ≡ Less) (BadFirst i) (BadFirst (i + 1)) keys (λ n. (
          λ first. (first.0, (first.1.0, first.1.1, omega (arith, first.1.2))),
          λ first. elim (first_or_here n first.1) [
            | inl before ↦ (first.0, before)
            | inr same ↦ absurd (
                let two : Some value ≡ Some first.0.value = sym stands_here ∙ ap (λ m. map.get rows m) same ∙ first.0.stands in
                let values : value ≡ first.0.value = cc in
                first.0.is_not_good (subst (IsGoodRow s rows n) values (subst (λ m. IsGoodRow s rows m value) same good)))
          ],
        )) so_far

  pub all_good : length es ≤ i → ((n w : List ℕ) → InFirst es i n → map.get rows n ≡ Some w → IsGoodRow s rows n w) → NoBadRow s rows
  all_good le good n w stands = let at = are.stands n w stands in good n w (w, at, omega (arith, at.within, le)) stands

  pub all_bad : length es ≤ i → (keys : List (List ℕ)) → ListsAll (λ a b. byte_order a b ≡ Less) (λ n. IsBadRow s rows n × InFirst es i n) keys
      → ListsAll (λ a b. byte_order a b ≡ Less) (IsBadRow s rows) keys
  all_bad le keys so_far = lists_as (λ a b. byte_order a b ≡ Less) (λ n. IsBadRow s rows n × InFirst es i n) (IsBadRow s rows) keys (λ n. (
    λ first. first.0,
    λ bad. let at = are.stands n bad.value bad.stands in (bad, (bad.value, at, omega (arith, at.within, le))),
  )) so_far
