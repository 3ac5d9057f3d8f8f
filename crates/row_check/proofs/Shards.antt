-- A shard's place among the shards before it, by the last row that was passed.
use Rattle.std.proofs.Common.{◌≡◌, ◌≢◌, ℕ, ◌^◌, ◌<◌, ◌≤◌, List, ◌∷◌, ◌++◌, [], Option, Some, None, Result, Ok, Err, Bool, IfOk, IsTrue, MatchOption, refl, sym, ap, subst, ◌∙◌, arith, ◌↔◌}
use Rattle.std.specs.List.{AllByRecursion}
use Rattle.std.specs.declared.cmp.Ordering.TheVariants.{Less}
use Rattle.byte_maps.specs.ByteMap.{byte_order}
use Rattle.unit_fields.specs.Prelude.{IsName, IsCollName}
use Rattle.meta_rows.specs.Prelude.{Rows}
use Rattle.meta_log.specs.declared.slot.Super.{Super}
use Rattle.meta_log.specs.Prelude.{width_of}
use Rattle.row_format.specs.Prelude.{onode_key, shard_key, Extent, page_end, collection, onode, shard, attribute, omap_header, omap_pair, blob, bitmap}
use Rattle.row_format.specs.Row as format
use Rattle.row_format.proofs.Prelude.{same_head, coll_no_object, bitmap_no_object, same_place, same_row}
use Rattle.store_image.specs.Prelude.{HasShard, IsInPlace, IsShardInPlace, IsGoodRow}
use Rattle.row_reading.specs.declared.row.Row.{Row}
use Rattle.row_reading.specs.declared.row.Row.TheVariants as read
use Rattle.row_reading.specs.Reading.{format_row, SpellsRow}
use Rattle.row_check.specs.declared.passed.Passed.{Passed}
use Rattle.row_check.specs.Bad.{IsFirst, IsLast, EndAt, ShardsEndAt, Knows, IsBelow, IsAtRow, IsShardOf, EndsBefore, ShardStands}
use Rattle.row_check.specs.Named.{KnowsEarlier}
use Rattle.row_check.proofs.Named.{earlier_known}
use Rattle.row_reading.proofs.KeyOrder.{has_front, onode_front, shard_front, page_bytes, lesser_page, lesser_shard, onode_before}

module _ (s : Super) (rows : Rows) (c o : List ℕ) (page : ℕ) (coll : IsCollName c) (name : IsName o) (below : page < 2 ^ 32) where
  -- what a shard asks of those before it
  abbrev IsBehind : Type 0
  IsBehind = (earlier : ℕ) (es : List Extent) → earlier < page → HasShard (width_of s) rows c o earlier es
      → AllByRecursion (λ e. page_end e ≤ page) es

  abbrev IsLastHere : Option Row → Type 0
  IsLastHere last = MatchOption last (IsFirst (width_of s) rows (IsBelow (shard_key c o page)))
      (λ row. (value : List ℕ) × IsLast (width_of s) rows (IsBelow (shard_key c o page)) (format_row row value))

  module _ (earlier : ℕ) (es : List Extent) (has : HasShard (width_of s) rows c o earlier es) (less : byte_order (shard_key c o earlier) (shard_key c o page) ≡ Less) where
    -- the last row has the object's front
    last_front : (r : format.Row) → IsLast (width_of s) rows (IsBelow (shard_key c o page)) r
        → (rest : List ℕ) × (format.row_key r ≡ onode_key c o ++ rest)
    last_front r last =
        has_front (onode_key c o) (format.row_key r) (page_bytes earlier) (page_bytes page)
        (subst (λ k. byte_order (format.row_key r) k ≢ Less) (shard_front c o earlier) (last.last (shard c o earlier es) has less))
        (subst (λ k. byte_order (format.row_key r) k ≡ Less) (shard_front c o page) last.before)

    -- where an earlier shard of the object is there, the last row is one of them
    shard_last : (last : Option Row) → IsLastHere last → (q : ℕ) × (fs : List Extent) × (last ≡ Some (read.Shard c o q fs))
    shard_last None first = absurd (first (shard c o earlier es) has less)
    shard_last (Some (read.Collection d)) is =
        let front = last_front (collection d) is.1 in absurd (coll_no_object d c o (0x6f ∷ front.0) (front.1 ∙ onode_front c o front.0))
    shard_last (Some (read.Blob sbid first slots)) is = let front = last_front (blob sbid first slots) is.1 in absurd (omega (arith, same_head _ _ _ _ front.1))
    shard_last (Some (read.Bitmap r bits)) is =
        let front = last_front (bitmap r bits) is.1 in absurd (bitmap_no_object r c o (0x6f ∷ front.0) (front.1 ∙ onode_front c o front.0))
    shard_last (Some (read.Attribute d u n)) is = let front = last_front (attribute d u n is.0) is.1 in absurd (omega (arith, same_head _ _ _ _ front.1))
    shard_last (Some (read.OmapHeader d u)) is = let front = last_front (omap_header d u is.0) is.1 in absurd (omega (arith, same_head _ _ _ _ front.1))
    shard_last (Some (read.OmapPair d u k)) is = let front = last_front (omap_pair d u k is.0) is.1 in absurd (omega (arith, same_head _ _ _ _ front.1))
    shard_last (Some (read.Onode d u size)) is =
        let last : IsLast (width_of s) rows (IsBelow (shard_key c o page)) (onode d u size) = is.1 in
        let front = last_front (onode d u size) last in
        let same = same_place 0x4f d u c o (0x6f ∷ []) (0x6f ∷ front.0) last.has.fits.0 last.has.fits.1 coll name (front.1 ∙ onode_front c o front.0) in
        let key : onode_key d u ≡ onode_key c o = λ i. onode_key (same.0 i) (same.1 i) in
        absurd (last.last (shard c o earlier es) has less (ap (λ k. byte_order k (shard_key c o earlier)) key ∙ onode_before c o coll name earlier))
    shard_last (Some (read.Shard d u q fs)) is =
        let last : IsLast (width_of s) rows (IsBelow (shard_key c o page)) (shard d u q fs) = is.1 in
        let front = last_front (shard d u q fs) last in
        let same = same_place 0x4f d u c o _ (0x6f ∷ front.0) last.has.fits.coll_name last.has.fits.object_name coll name (front.1 ∙ onode_front c o front.0) in
        (q, fs, λ i. Some (read.Shard (same.0 i) (same.1 i) q fs))

  module _ (p : Passed) (knows : Knows s rows (IsBelow (shard_key c o page)) p) where
    -- each earlier shard ends where those so far do, or before
    pub earlier_ends : (n earlier : ℕ) (es : List Extent) → HasShard (width_of s) rows c o earlier es → byte_order (shard_key c o earlier) (shard_key c o page) ≡ Less
        → EndsBefore p c o n → AllByRecursion (λ e. page_end e ≤ n) es
    earlier_ends n earlier es has less ends =
        let last = shard_last earlier es has less p.last knows.last_is in
        let end : EndAt (width_of s) rows (IsBelow (shard_key c o page)) c o p.end =
        subst (λ (l : Option Row). ShardsEndAt (width_of s) rows (IsBelow (shard_key c o page)) l p.end) last.2 knows.end_is in
        let own : IsShardOf p.last c o = subst (λ (l : Option Row). IsShardOf l c o) (sym last.2) (refl, refl) in
        (end n).0 (ends own) earlier es has less

    -- and they end before a page, where each of them does
    pub all_end : (n : ℕ) → ((earlier : ℕ) (es : List Extent) → HasShard (width_of s) rows c o earlier es → byte_order (shard_key c o earlier) (shard_key c o page) ≡ Less
        → AllByRecursion (λ e. page_end e ≤ n) es) → EndsBefore p c o n
    all_end n each own = by p.last knows.end_is own
      where
        by : (last : Option Row) → ShardsEndAt (width_of s) rows (IsBelow (shard_key c o page)) last p.end → IsShardOf last c o → p.end ≤ n
        by None end own = absurd own
        by (Some (read.Collection d)) end own = absurd own
        by (Some (read.Blob sbid first slots)) end own = absurd own
        by (Some (read.Bitmap r bits)) end own = absurd own
        by (Some (read.Attribute d u k)) end own = absurd own
        by (Some (read.OmapHeader d u)) end own = absurd own
        by (Some (read.OmapPair d u k)) end own = absurd own
        by (Some (read.Onode d u size)) end own = absurd own
        by (Some (read.Shard d u q fs)) end own =
            let end_is : EndAt (width_of s) rows (IsBelow (shard_key c o page)) c o p.end =
            subst (λ (x : List ℕ). EndAt (width_of s) rows (IsBelow (shard_key c o page)) x o p.end) own.0
            (subst (λ (x : List ℕ). EndAt (width_of s) rows (IsBelow (shard_key c o page)) d x p.end) own.1 end) in
            (end_is n).1 each

    behind_last : EndsBefore p c o page → IsBehind
    behind_last ends earlier es less has = earlier_ends page earlier es has (lesser_shard c o coll name earlier page has.fits.page_below below less) ends

    last_behind : IsBehind → EndsBefore p c o page
    last_behind behind = all_end page (λ earlier es has less. behind earlier es (lesser_page c o coll name earlier page has.fits.page_below below less) has)

    pub placed : (es : List Extent) → EndsBefore p c o page → ShardStands s rows c o es ↔ IsShardInPlace s rows c o page es
    placed es ends = (
      λ stands. record {
        has_collection = stands.has_collection;
        has_onode = stands.within_onode.has_onode;
        ascend = stands.ascend;
        behind = behind_last ends;
        within = stands.within_onode.within;
        on_data = stands.on_data;
        slots = stands.slots;
      },
      λ place. record {
        ascend = place.ascend;
        on_data = place.on_data;
        has_collection = place.has_collection;
        within_onode = record { has_onode = place.has_onode; within = place.within };
        slots = place.slots;
      },
    )

    pub unplaced : (es : List Extent) → ¬ EndsBefore p c o page → ¬ IsShardInPlace s rows c o page es
    unplaced es apart place = apart (last_behind place.behind)

-- what is known at a shard of the blobs that collections named
pub earlier_here : (s : Super) (rows : Rows) (p : Passed) (row : Row) (c o : List ℕ) (page : ℕ) (es : List Extent) → row ≡ read.Shard c o page es
    → IsAtRow s rows p row → KnowsEarlier (width_of s) rows p.namers c
earlier_here s rows p row c o page es is at =
    let here : IsAtRow s rows p (read.Shard c o page es) = subst (IsAtRow s rows p) is at in
    earlier_known (width_of s) rows c o page here.fits.coll_name p.namers here.knows.namers

-- the answer of `is_in_place` at a shard whose predecessors end before it
pub shard_answer : {E : Type 0} (s : Super) (rows : Rows) (p : Passed) (row : Row) (c o : List ℕ) (page : ℕ) (es fs : List Extent) (r : Result Bool E)
    → row ≡ read.Shard c o page es → fs ≡ es → IsAtRow s rows p row → EndsBefore p c o page
    → IfOk r (λ stands. IsTrue stands ↔ ShardStands s rows c o fs)
    → IfOk r (λ place. (value : List ℕ) → IsTrue place ↔ IsInPlace s rows (format_row row value))
shard_answer s rows p row c o page es fs (Err e) is same = λ to ends h. tt
shard_answer s rows p row c o page es fs (Ok b) is same =
    subst (λ (x : Row). IsAtRow s rows p x → EndsBefore p c o page
    → (IsTrue b ↔ ShardStands s rows c o fs) → (value : List ℕ) → IsTrue b ↔ IsInPlace s rows (format_row x value)) (sym is)
    (λ to ends h value.
    let by = placed s rows c o page to.fits.coll_name to.fits.object_name to.fits.page_below p to.knows es ends in
    let own = subst (λ l. IsTrue b ↔ ShardStands s rows c o l) same h in
    (λ yes. by.0 (own.0 yes), λ place. own.1 (by.1 place)))

-- at a shard into which an earlier one reaches
pub shard_refused : (s : Super) (rows : Rows) (p : Passed) (row : Row) (c o : List ℕ) (page : ℕ) (es : List Extent)
    → row ≡ read.Shard c o page es → IsAtRow s rows p row
    → ¬ (EndsBefore p c o page) → (value : List ℕ) → ¬ (IsInPlace s rows (format_row row value))
shard_refused s rows p row c o page es is =
    subst (λ (x : Row). IsAtRow s rows p x
    → ¬ (EndsBefore p c o page) → (value : List ℕ) → ¬ (IsInPlace s rows (format_row x value))) (sym is)
    (λ to apart value. unplaced s rows c o page to.fits.coll_name to.fits.object_name to.fits.page_below p to.knows es apart)

-- a row that isn't in its place isn't good
pub no_good : (s : Super) (rows : Rows) (key value : List ℕ) (r : format.Row) → SpellsRow (width_of s) key value r → ¬ (IsInPlace s rows r)
    → ¬ (IsGoodRow s rows key value)
no_good s rows key value r spells apart good =
    apart (subst (IsInPlace s rows)
    (sym (same_row (width_of s) r good.row spells.fits good.fits (sym spells.key_is ∙ good.key_is)
    (sym spells.value_is ∙ good.value_is))) good.in_place)
