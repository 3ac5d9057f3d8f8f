-- The rows from an object's onode on: it, its shards, and rows that aren't its own.
use Rattle.std.proofs.Common.{◌≡◌, ◌≢◌, ◌⊎◌, inl, inr, ℕ, zero, suc, ◌<◌, ◌≤◌, Bool, true, false, cond, not, List, [], ◌∷◌, ◌++◌, length, take, drop, Option, Some, None, is_some, refl, sym, ap, subst, ◌∙◌, append-nil, length-append, arith}
use Rattle.std.specs.Prelude.{filter, ◌&&◌}
use Rattle.std.specs.List.{flat_map, AllByRecursion}
use Rattle.std.specs.Ordering.{is_lt}
use Rattle.std.specs.declared.cmp.Ordering.{Ordering}
use Rattle.std.specs.declared.cmp.Ordering.TheVariants.{Less, Equal, Greater}
use Rattle.std.specs.FinMap as finite
use Rattle.std.specs.FinMap.{entries, entries_sorted}
use Rattle.std.proofs.lemmas.Bool.{cases_Bool}
use Rattle.std.proofs.lemmas.Cmp.{tied_itself, nat_list_cmp_total}
use Rattle.std.proofs.lemmas.List.{take_all, take-append-drop}
use Rattle.std.proofs.lemmas.List.Elements.{filter-append}
use Rattle.byte_maps.specs.ByteMap.{byte_order}
use Rattle.meta_rows.specs.Prelude.{Rows, rows_from_to}
use Rattle.meta_rows.specs.Table.{is_from_to}
use Rattle.meta_log.specs.declared.slot.Super.{Super}
use Rattle.meta_log.specs.Prelude.{width_of}
use Rattle.unit_fields.specs.Prelude.{IsName, IsCollName}
use Rattle.unit_fields.specs.declared.width.Width.{Width}
use Rattle.row_format.specs.Prelude.{onode_key, shard, Extent}
use Rattle.row_reading.proofs.KeyOrder.{after_front, has_front, onode_front, shard_front, page_bytes, onode_before}
use Rattle.onode_codec.specs.Reading.{SpellsOnode}
use Rattle.store_image.specs.Prelude.{HasOnode}
use Rattle.store_image.proofs.Prelude.{in_place}
use Rattle.blob_map.specs.Prelude.{PageMap, extent_pages, with_pages}
use Rattle.object_rows.proofs.Lists.{all_append}
use Rattle.object_rows.specs.Shards.{AreShardsOf, extents_in, first_pages}
use Rattle.extent_shards.specs.Prelude.{IsShardValue, AddsShard}
use Rattle.object_rows.specs.Stores.{AreRowsOfWidth}
use Rattle.onode_state.specs.Objects.{HasShards, IsSizeAt, IsObjectState}
use Rattle.onode_state.proofs.ShardRows as own
use Rattle.onode_state.proofs.ShardRows.{IsShardEntry, In, KeysRise, at_in, filtered_all, in_filtered, filtered_rise, sorted_rise, not_less, range_has_all}
use Rattle.onode_state.proofs.ReadShards.{AreRead, none_read, shards_by_entries, value_in, read_more}
use Rattle.onode_state.proofs.States.{onode_under, size_read, numbers_of, state_there, state_missing}

abbrev Entry : Type 0
Entry = List ℕ × List ℕ

-- ---- lists

pub all_so : (P Q : Entry → Type 0) → ((e : Entry) → P e → Q e) → (es : List Entry) → AllByRecursion P es → AllByRecursion Q es
all_so P Q f [] all = tt
all_so P Q f (e ∷ es) all = (f e all.0, all_so P Q f es all.1)

pub in_all : (P : Entry → Type 0) (es : List Entry) (x : Entry) → AllByRecursion P es → In es x → P x
in_all P [] x all there = absurd there
in_all P (e ∷ es) x all (inl same) = subst P same all.0
in_all P (e ∷ es) x all (inr later) = in_all P es x all.1 later

all_drop : (P : Entry → Type 0) (es : List Entry) (i : ℕ) → AllByRecursion P es → AllByRecursion P (drop i es)
all_drop P [] zero all = tt
all_drop P [] (suc i) all = tt
all_drop P (e ∷ es) zero all = all
all_drop P (e ∷ es) (suc i) all = all_drop P es i all.1

rise_drop : (es : List Entry) (i : ℕ) → KeysRise es → KeysRise (drop i es)
rise_drop [] zero rise = tt
rise_drop [] (suc i) rise = tt
rise_drop (e ∷ es) zero rise = rise
rise_drop (e ∷ es) (suc i) rise = rise_drop es i rise.1

module _ (p : Entry → Bool) where
  passes : (e : Entry) (es : List Entry) → p e ≡ true → filter p (e ∷ es) ≡ e ∷ filter p es
  passes e es is = ap (λ b. cond b (e ∷ filter p es) (filter p es)) is

  pub fails : (e : Entry) (es : List Entry) → p e ≡ false → filter p (e ∷ es) ≡ filter p es
  fails e es is = ap (λ b. cond b (e ∷ filter p es) (filter p es)) is

  none_pass : (es : List Entry) → AllByRecursion (λ e. p e ≡ false) es → filter p es ≡ []
  none_pass [] all = refl
  none_pass (e ∷ es) all = fails e es all.0 ∙ none_pass es all.1

  pub filtered_twice : (q : Entry → Bool) → ((e : Entry) → p e ≡ true → q e ≡ true) → (es : List Entry) → filter p (filter q es) ≡ filter p es
  filtered_twice q f [] = refl
  filtered_twice q f (e ∷ es) = elim (cases_Bool (p e)) [
    | inl t ↦ ap (filter p) (passed q e es (f e t)) ∙ passes e (filter q es) t ∙ ap (λ l. e ∷ l) (filtered_twice q f es) ∙ sym (passes e es t)
    | inr n ↦ elim (cases_Bool (q e)) [
      | inl t ↦ ap (filter p) (passed q e es t) ∙ fails e (filter q es) n ∙ filtered_twice q f es ∙ sym (fails e es n)
      | inr m ↦ ap (filter p) (ap (λ b. cond b (e ∷ filter q es) (filter q es)) m) ∙ filtered_twice q f es ∙ sym (fails e es n)
    ]
  ]
    where
      passed : (q : Entry → Bool) (e : Entry) (es : List Entry) → q e ≡ true → filter q (e ∷ es) ≡ e ∷ filter q es
      passed q e es is = ap (λ b. cond b (e ∷ filter q es) (filter q es)) is

-- ---- orders

from_on : (r : Ordering) → not (is_lt r) ≡ true → r ≢ Less
from_on Less h e = absurd cc
from_on Equal h e = absurd cc
from_on Greater h e = absurd cc

on_from : (r : Ordering) → r ≢ Less → not (is_lt r) ≡ true
on_from Less h = absurd (h refl)
on_from Equal h = refl
on_from Greater h = refl

never : (b : Bool) (r : Ordering) → r ≢ Less → (b && is_lt r) ≡ false
never b Less h = absurd (h refl)
never true Equal h = refl
never false Equal h = refl
never true Greater h = refl
never false Greater h = refl

first_less : (r : Ordering) (b : Bool) → r ≡ Less → (not (is_lt r) && b) ≡ false
first_less Less b h = refl
first_less Equal b h = absurd cc
first_less Greater b h = absurd cc

-- ---- the rows from its onode on

-- the onode says so many bytes, or it isn't among the rows
abbrev pub SizeIn : Rows → List ℕ → List ℕ → List Entry → Option ℕ → Type 0
SizeIn rows c o seen None = AllByRecursion (λ e. e.0 ≢ onode_key c o) seen
SizeIn rows c o seen (Some size) = HasOnode rows c o size

-- what is known once these rows are read
pub record IsSeen (w : Width) (rows : Rows) (c o : List ℕ) (seen : List (List ℕ × List ℕ)) (size : Option ℕ) (firsts : List ℕ) (pages : PageMap) : Type 0 where
  pub size_is : SizeIn rows c o seen size
  pub read : AreRead w c o (filter (λ e. own.is_between w c o e.0) seen) firsts pages

module _ (w : Width) (rows : Rows) (c o : List ℕ) (coll : IsCollName c) (name : IsName o) (good : AreRowsOfWidth w rows) where
  abbrev sup : Super
  sup = good.store.sup

  abbrev onode : List ℕ
  onode = onode_key c o

  abbrev is_between : List ℕ → Bool
  is_between key = own.is_between w c o key

  abbrev shards_end : List ℕ
  shards_end = own.shards_end w c o

  abbrev StandsIn : Entry → Type 0
  StandsIn e = finite.get rows e.0 ≡ Some e.1

  -- it stands, and isn't before the onode
  abbrev pub IsOn : Entry → Type 0
  IsOn e = (finite.get rows e.0 ≡ Some e.1) × (byte_order e.0 (onode_key c o) ≢ Less)

  abbrev pub onwards : List Entry
  onwards = rows_from_to rows (onode_key c o) None

  abbrev range : List Entry
  range = own.range w c o coll name sup rows good.store.good good.wide

  entry_of : (e : Entry) → StandsIn e → (rest : List ℕ) → e.0 ≡ onode ++ rest → (e.0 ≡ onode) ⊎ IsShardEntry w c o e
  entry_of e there rest is =
      own.entry_of w c o coll name sup rows good.store.good good.wide e there (0x6f ∷ rest) (is ∙ onode_front c o rest)

  all_on : AllByRecursion IsOn onwards
  all_on = filtered_all (λ e. is_from_to onode None e.0) StandsIn IsOn (λ e there is. (there, from_on (byte_order e.0 onode) is)) (entries rows)
      (own.all_stand w c o coll name sup rows good.store.good good.wide)

  all_rise : KeysRise onwards
  all_rise = filtered_rise (λ e. is_from_to onode None e.0) (entries rows) (sorted_rise (entries rows) (entries_sorted rows))

  -- those that are left are such rows too
  pub next_on : (i : ℕ) (e : Entry) (rest : List Entry) → drop i onwards ≡ e ∷ rest → IsOn e
  next_on i e rest is = (subst (AllByRecursion IsOn) is (all_drop IsOn onwards i all_on)).0

  -- with its key and no more it is the onode
  pub its_onode : (e : Entry) (rest : List ℕ) → length rest < 1 → e.0 ≡ onode_key c o ++ rest → e.0 ≡ onode_key c o
  its_onode e [] few is = is ∙ append-nil onode
  its_onode e (b ∷ rest) few is = absurd (omega (arith, few))

  -- with more behind its key it is a shard
  pub its_shard : (e : Entry) (rest : List ℕ) → StandsIn e → 1 ≤ length rest → e.0 ≡ onode_key c o ++ rest → IsShardEntry w c o e
  its_shard e [] there some is = absurd (omega (arith, some))
  its_shard e (b ∷ rest) there some is = elim (entry_of e there (b ∷ rest) is) [
    | inl same ↦ absurd (omega (arith, ap length (sym same ∙ is), length-append onode (b ∷ rest)))
    | inr its ↦ its
  ]

  pub between : (e : Entry) → IsShardEntry w c o e → is_between e.0 ≡ true
  between e s = ap (λ (x : Entry). is_between x.0) s.is ∙ own.shard_between w c o coll name s.page s.fits.page_below

  pub onode_outside : is_between onode ≡ false
  onode_outside = first_less (byte_order onode (own.shards_first w c o)) (is_lt (byte_order onode shards_end)) (onode_before c o coll name 0)

  shard_apart : (e : Entry) → IsShardEntry w c o e → e.0 ≢ onode
  shard_apart e s same = let clash : true ≡ false = sym (between e s) ∙ ap is_between same ∙ onode_outside in absurd cc

  -- ---- one row more

  pub nothing_seen : (firsts : List ℕ) (pages : PageMap) → firsts ≡ [] → pages ≡ finite.empty → IsSeen w rows c o [] None firsts pages
  nothing_seen firsts pages f p = record { size_is = tt; read = none_read w c o firsts pages f p }

  more_between : (seen : List Entry) (e : Entry) → is_between e.0 ≡ true
      → filter (λ x. is_between x.0) (seen ++ e ∷ []) ≡ filter (λ x. is_between x.0) seen ++ e ∷ []
  more_between seen e is = filter-append (λ x. is_between x.0) seen (e ∷ [])
      ∙ ap (λ l. filter (λ x. is_between x.0) seen ++ l) (passes (λ x. is_between x.0) e [] is)

  more_outside : (seen : List Entry) (e : Entry) → is_between e.0 ≡ false
      → filter (λ x. is_between x.0) (seen ++ e ∷ []) ≡ filter (λ x. is_between x.0) seen
  more_outside seen e is = filter-append (λ x. is_between x.0) seen (e ∷ [])
      ∙ ap (λ l. filter (λ x. is_between x.0) seen ++ l) (fails (λ x. is_between x.0) e [] is)
      ∙ append-nil (filter (λ x. is_between x.0) seen)

  pub onode_seen : (seen : List Entry) (e : Entry) (size : ℕ) (before : Option ℕ) (firsts : List ℕ) (pages : PageMap) → e.0 ≡ onode_key c o
      → HasOnode rows c o size → IsSeen w rows c o seen before firsts pages → IsSeen w rows c o (seen ++ e ∷ []) (Some size) firsts pages
  onode_seen seen e size before firsts pages is has was = record {
    size_is = has;
    read = subst (λ es. AreRead w c o es firsts pages) (sym (more_outside seen e (ap is_between is ∙ onode_outside))) was.read;
  }

  size_kept : (seen : List Entry) (e : Entry) (size : Option ℕ) → e.0 ≢ onode → SizeIn rows c o seen size → SizeIn rows c o (seen ++ e ∷ []) size
  size_kept seen e None apart none = all_append (λ x. x.0 ≢ onode) seen (e ∷ []) none (apart, tt)
  size_kept seen e (Some size) apart has = has

  pub shard_seen : (seen : List Entry) (e : Entry) (value : List ℕ) (size : Option ℕ) (firsts firsts' : List ℕ) (pages pages' : PageMap)
      → IsShardEntry w c o e → value ≡ e.1 → AddsShard w value firsts pages firsts' pages' → IsSeen w rows c o seen size firsts pages
      → IsSeen w rows c o (seen ++ e ∷ []) size firsts' pages'
  shard_seen seen e value size firsts firsts' pages pages' s value_is adds was = record {
    size_is = size_kept seen e size (shard_apart e s) was.size_is;
    read = subst (λ es. AreRead w c o es firsts' pages') (sym (more_between seen e (between e s)))
        (read_more w c o value (filter (λ x. is_between x.0) seen) e firsts firsts' pages pages' s value_is adds was.read);
  }

  -- ---- the values

  pub stands_at : (e : Entry) → StandsIn e → In (entries rows) e
  stands_at e there =
      let at = (own.entries_are w c o coll name sup rows good.store.good good.wide).stands e.0 e.1 there in
      at_in (entries rows) e at.at at.within at.is

  range_shards : AllByRecursion (IsShardEntry w c o) range
  range_shards = own.range_is_shards w c o coll name sup rows good.store.good good.wide

  pub value_is_shard : (e : Entry) (value : List ℕ) → StandsIn e → IsShardEntry w c o e → value ≡ e.1 → IsShardValue w value
  value_is_shard e value there s value_is =
      let by = shards_by_entries w c o range range_shards in
      let are = range_has_all w c o coll name sup rows good.store.good good.wide by.0 by.1.fit by.1.entries_are in
      let numbers = numbers_of rows c o coll name good.store by.0 (subst (λ v. AreShardsOf v rows c o by.0) (sym good.wide) are) in
      let here : In range e = in_filtered (λ x. is_between x.0) (entries rows) e (between e s) (stands_at e there) in
      value_in w c o value by.0 e by.1.fit numbers (subst (λ l. In l e) by.1.entries_are here) value_is

  under : (e : Entry) → StandsIn e → e.0 ≡ onode → finite.get rows onode ≡ Some e.1
  under e there is = ap (finite.get rows) (sym is) ∙ there

  pub value_is_onode : (e : Entry) (value : List ℕ) → StandsIn e → e.0 ≡ onode_key c o → value ≡ e.1 → (size : ℕ) × SpellsOnode value size
  value_is_onode e value there is value_is =
      let found = onode_under rows c o coll name good.store e.1 (under e there is) in
      (found.size, subst (λ v. SpellsOnode v found.size) (sym value_is) found.spelled)

  pub size_is_read : (e : Entry) (value : List ℕ) (size : ℕ) → StandsIn e → e.0 ≡ onode_key c o → value ≡ e.1 → SpellsOnode value size → HasOnode rows c o size
  size_is_read e value size there is value_is spelled =
      size_read rows c o coll name good.store e.1 size (under e there is) (subst (λ v. SpellsOnode v size) value_is spelled)

  -- ---- all of its rows

  pub onode_ends : byte_order onode shards_end ≡ Less
  onode_ends = (λ i. byte_order (sym (own.fronted w c o (0x6f ∷ [])) i) (sym (own.fronted w c o (0x70 ∷ [])) i))
      ∙ after_front (own.names_front w c o) (0x6f ∷ []) (0x70 ∷ [])

  -- a row without its key in front is behind them all
  past : (e : Entry) → IsOn e → ((rest : List ℕ) → e.0 ≢ onode ++ rest) → byte_order e.0 shards_end ≢ Less
  past e on apart less =
      let found = has_front (own.names_front w c o) e.0 (0x6f ∷ []) (0x70 ∷ [])
      (subst (λ k. byte_order e.0 k ≢ Less) (sym (own.fronted w c o (0x6f ∷ []))) on.1)
      (ap (byte_order e.0) (own.fronted w c o (0x70 ∷ [])) ∙ less) in
      elim (own.entry_of w c o coll name sup rows good.store.good good.wide e on.0 found.0 (found.1 ∙ own.fronted w c o found.0)) [
        | inl same ↦ apart [] (same ∙ sym (append-nil onode))
        | inr s ↦ apart (page_bytes s.page) (ap (λ (x : Entry). x.0) s.is ∙ shard_front c o s.page)
      ]

  abbrev IsPast : Entry → Type 0
  IsPast e = byte_order e.0 shards_end ≢ Less

  all_past : (e : Entry) (es : List Entry) → KeysRise (e ∷ es) → IsPast e → AllByRecursion IsPast (e ∷ es)
  all_past e es rise is =
      (is, all_so (λ y. byte_order e.0 y.0 ≡ Less) IsPast (λ y up less. is (nat_list_cmp_total.trans e.0 y.0 shards_end up less)) es rise.0)

  past_outside : (e : Entry) → IsPast e → is_between e.0 ≡ false
  past_outside e is = never (not (is_lt (byte_order e.0 (own.shards_first w c o)))) (byte_order e.0 shards_end) is

  past_apart : (e : Entry) → IsPast e → e.0 ≢ onode
  past_apart e is same = is (ap (λ k. byte_order k shards_end) same ∙ onode_ends)

  past_size : (seen left : List Entry) (size : Option ℕ) → AllByRecursion IsPast left → SizeIn rows c o seen size → SizeIn rows c o (seen ++ left) size
  past_size seen left None past none = all_append (λ x. x.0 ≢ onode) seen left none (all_so IsPast (λ x. x.0 ≢ onode) past_apart left past)
  past_size seen left (Some size) past has = has

  pub seen_past : (i : ℕ) (e : Entry) (es : List Entry) (size : Option ℕ) (firsts : List ℕ) (pages : PageMap) → drop i onwards ≡ e ∷ es
      → ((rest : List ℕ) → e.0 ≢ onode_key c o ++ rest) → IsSeen w rows c o (take i onwards) size firsts pages
      → IsSeen w rows c o onwards size firsts pages
  seen_past i e es size firsts pages is apart was =
      let left : AllByRecursion IsPast (drop i onwards) =
      subst (AllByRecursion IsPast) (sym is) (all_past e es (subst KeysRise is (rise_drop onwards i all_rise)) (past e (next_on i e es is) apart)) in
      let none : filter (λ x. is_between x.0) (drop i onwards) ≡ [] =
      none_pass (λ x. is_between x.0) (drop i onwards) (all_so IsPast (λ x. is_between x.0 ≡ false) past_outside (drop i onwards) left) in
      let same : filter (λ x. is_between x.0) (take i onwards) ≡ filter (λ x. is_between x.0) (take i onwards ++ drop i onwards) =
      sym (filter-append (λ x. is_between x.0) (take i onwards) (drop i onwards)
      ∙ ap (λ l. filter (λ x. is_between x.0) (take i onwards) ++ l) none ∙ append-nil (filter (λ x. is_between x.0) (take i onwards))) in
      subst (λ es. IsSeen w rows c o es size firsts pages) (take-append-drop i onwards) (record {
        size_is = past_size (take i onwards) (drop i onwards) size left was.size_is;
        read = subst (λ es. AreRead w c o es firsts pages) same was.read;
      })

  pub seen_all : (i : ℕ) (size : Option ℕ) (firsts : List ℕ) (pages : PageMap) → length onwards ≤ i → IsSeen w rows c o (take i onwards) size firsts pages
      → IsSeen w rows c o onwards size firsts pages
  seen_all i size firsts pages le was = subst (λ es. IsSeen w rows c o es size firsts pages) (take_all i onwards le) was

  within : (e : Entry) → is_between e.0 ≡ true → is_from_to onode None e.0 ≡ true
  within e is = on_from (byte_order e.0 onode) (λ less.
      not_less (byte_order e.0 (own.shards_first w c o)) (is_lt (byte_order e.0 shards_end)) is
      (nat_list_cmp_total.trans e.0 onode (own.shards_first w c o) less (onode_before c o coll name 0)))

  range_onwards : filter (λ x. is_between x.0) onwards ≡ range
  range_onwards = filtered_twice (λ x. is_between x.0) (λ x. is_from_to onode None x.0) within (entries rows)

  has_shards : (firsts : List ℕ) (pages : PageMap) → AreRead w c o range firsts pages → HasShards w rows c o firsts pages
  has_shards firsts pages read = record {
    shards = read.shards;
    are = range_has_all w c o coll name sup rows good.store.good good.wide read.shards read.fit read.entries_are;
    firsts_are = read.firsts_are;
    pages_are = read.pages_are;
  }

  onode_on : is_from_to onode None onode ≡ true
  onode_on = ap (λ r. not (is_lt r)) (tied_itself nat_list_cmp_total onode)

  size_at : (size : Option ℕ) → SizeIn rows c o onwards size → IsSizeAt rows c o size
  size_at None none = elim (finite.get rows onode) as (λ (r : Option (List ℕ)). finite.get rows onode ≡ r → r ≡ None) [
    | None ↦ λ is. refl
    | Some value ↦ λ is. absurd (in_all (λ x. x.0 ≢ onode) onwards (onode, value) none
        (in_filtered (λ x. is_from_to onode None x.0) (entries rows) (onode, value) onode_on (stands_at (onode, value) is)) refl)
  ] refl
  size_at (Some size) has = has

  -- a missing object has no shard
  no_shards : finite.get rows onode ≡ None → (shards : List (ℕ × List Extent)) → AreShardsOf (width_of sup) rows c o shards → shards ≡ []
  no_shards none [] are = refl
  no_shards none (x ∷ xs) are =
      let held = (in_place sup rows (shard c o x.0 x.1) good.store.good are.there.0).has_onode in
      let gone = ap is_some none in absurd cc

  pub state_is : (size : Option ℕ) (firsts : List ℕ) (pages : PageMap) → IsSeen w rows c o onwards size firsts pages
      → IsObjectState w rows c o size pages firsts
  state_is size firsts pages seen =
      let read = subst (λ es. AreRead w c o es firsts pages) range_onwards seen.read in
      let has = subst (λ v. HasShards v rows c o firsts pages) (sym good.wide) (has_shards firsts pages read) in
      subst (λ v. IsObjectState v rows c o size pages firsts) good.wide (by size (size_at size seen.size_is) has)
    where
      by : (size : Option ℕ) → IsSizeAt rows c o size → HasShards (width_of sup) rows c o firsts pages
          → IsObjectState (width_of sup) rows c o size pages firsts
      by (Some n) at has = state_there rows c o coll name good.store firsts pages has (Some n) at refl
      by None at has =
          let none = no_shards at has.shards has.are in
          let no_firsts : firsts ≡ [] = has.firsts_are ∙ ap first_pages none in
          let no_pages : pages ≡ finite.empty = has.pages_are ∙ ap (λ shards. with_pages finite.empty (flat_map extent_pages (extents_in shards))) none in
          subst (λ fs. IsObjectState (width_of sup) rows c o None pages fs) (sym no_firsts)
          (subst (λ ps. IsObjectState (width_of sup) rows c o None ps []) (sym no_pages)
          (state_missing rows c o coll name good.store None at refl))
