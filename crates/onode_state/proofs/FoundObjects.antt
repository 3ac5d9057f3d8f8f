-- The rows from an object's onode to its last shard: they begin with it, or it is missing.
use Rattle.std.proofs.Common.{◌≡◌, ◌≢◌, inl, inr, ℕ, Bool, true, cond, List, [], ◌∷◌, Option, Some, None, refl, sym, ap, subst, ◌∙◌}
use Rattle.std.specs.Prelude.{filter}
use Rattle.std.specs.List.{AllByRecursion}
use Rattle.std.specs.Ordering.{is_lt}
use Rattle.std.specs.declared.cmp.Ordering.TheVariants.{Less}
use Rattle.std.specs.FinMap as finite
use Rattle.std.specs.FinMap.{entries, entries_sorted}
use Rattle.std.proofs.lemmas.Cmp.{tied_itself, nat_list_cmp_total}
use Rattle.byte_maps.specs.ByteMap.{byte_order}
use Rattle.meta_rows.specs.Prelude.{Rows, rows_from_to}
use Rattle.meta_rows.specs.Table.{is_from_to}
use Rattle.meta_log.specs.declared.slot.Super.{Super}
use Rattle.meta_log.specs.Prelude.{width_of}
use Rattle.unit_fields.specs.Prelude.{IsName, IsCollName}
use Rattle.unit_fields.specs.declared.width.Width.{Width}
use Rattle.row_format.specs.Prelude.{ExtentsAscend, object_key, onode_key, shard_key}
use Rattle.row_reading.proofs.KeyOrder.{has_front, onode_before}
use Rattle.onode_codec.specs.Reading.{SpellsOnode}
use Rattle.page_lookup.specs.Prelude.{rows_read, HasNumber, FindPagesOf}
use Rattle.object_rows.specs.Stores.{AreRowsOfWidth}
use Rattle.onode_state.specs.Objects.{IsObjectFound}
use Rattle.onode_state.proofs.ShardRows as own
use Rattle.onode_state.proofs.ShardRows.{IsShardEntry, In, KeysRise, filtered_all, in_filtered, filtered_rise, sorted_rise, not_less, then_less, both_so}
use Rattle.onode_state.proofs.OnodeRows.{all_so, in_all, fails, filtered_twice, between, onode_outside, stands_at, onode_ends, value_is_onode, size_is_read}
use Rattle.onode_state.proofs.FoundPages.{pages_ascend, pages_found, numbers_fit}

abbrev Entry : Type 0
Entry = List ℕ × List ℕ

all_pass : (p : Entry → Bool) (es : List Entry) → AllByRecursion (λ e. p e ≡ true) es → filter p es ≡ es
all_pass p [] all = refl
all_pass p (e ∷ es) all = ap (λ b. cond b (e ∷ filter p es) (filter p es)) all.0 ∙ ap (λ l. e ∷ l) (all_pass p es all.1)

both_all : (P Q R : Entry → Type 0) → ((e : Entry) → P e → Q e → R e) → (es : List Entry) → AllByRecursion P es → AllByRecursion Q es → AllByRecursion R es
both_all P Q R f [] ps qs = tt
both_all P Q R f (e ∷ es) ps qs = (f e ps.0 qs.0, both_all P Q R f es ps.1 qs.1)

module _ (w : Width) (rows : Rows) (c o : List ℕ) (coll : IsCollName c) (name : IsName o) (good : AreRowsOfWidth w rows) where
  abbrev sup : Super
  sup = good.store.sup

  abbrev onode : List ℕ
  onode = onode_key c o

  abbrev shards_end : List ℕ
  shards_end = own.shards_end w c o

  abbrev is_between : Entry → Bool
  is_between e = own.is_between w c o e.0

  abbrev is_own : Entry → Bool
  is_own e = is_from_to onode (Some shards_end) e.0

  abbrev StandsIn : Entry → Type 0
  StandsIn e = finite.get rows e.0 ≡ Some e.1

  abbrev pub own_rows : List (List ℕ × List ℕ)
  own_rows = rows_from_to rows (onode_key c o) (Some (object_key 0x4f c o (0x70 ∷ [])))

  abbrev shard_rows : List Entry
  shard_rows = rows_from_to rows (shard_key c o 0) (Some shards_end)

  -- it stands, and lies between the onode and the end of the shards
  record IsOwn (e : Entry) : Type 0 where
    stands : finite.get rows e.0 ≡ Some e.1
    from : byte_order e.0 onode ≢ Less
    below : byte_order e.0 shards_end ≡ Less

  all_own : AllByRecursion IsOwn own_rows
  all_own = filtered_all is_own StandsIn IsOwn (λ e there is. record {
    stands = there;
    from = not_less (byte_order e.0 onode) (is_lt (byte_order e.0 shards_end)) is;
    below = then_less (byte_order e.0 onode) (byte_order e.0 shards_end) is;
  }) (entries rows) (own.all_stand w c o coll name sup rows good.store.good good.wide)

  all_rise : KeysRise own_rows
  all_rise = filtered_rise is_own (entries rows) (sorted_rise (entries rows) (entries_sorted rows))

  -- what is behind the onode is a shard
  is_shard : (e : Entry) → byte_order onode e.0 ≡ Less → IsOwn e → IsShardEntry w c o e
  is_shard e less is =
      let found = has_front (own.names_front w c o) e.0 (0x6f ∷ []) (0x70 ∷ [])
      (subst (λ k. byte_order e.0 k ≢ Less) (sym (own.fronted w c o (0x6f ∷ []))) is.from)
      (ap (byte_order e.0) (own.fronted w c o (0x70 ∷ [])) ∙ is.below) in
      elim (own.entry_of w c o coll name sup rows good.store.good good.wide e is.stands found.0 (found.1 ∙ own.fronted w c o found.0)) [
        | inl same ↦ absurd (is.from (ap (λ k. byte_order k onode) same ∙ sym (ap (byte_order onode) same) ∙ less))
        | inr its ↦ its
      ]

  within : (e : Entry) → is_between e ≡ true → is_own e ≡ true
  within e is =
      let first = own.shards_first w c o in
      both_so (byte_order e.0 onode) (byte_order e.0 shards_end)
      (λ less. not_less (byte_order e.0 first) (is_lt (byte_order e.0 shards_end)) is
      (nat_list_cmp_total.trans e.0 onode first less (onode_before c o coll name 0)))
      (then_less (byte_order e.0 first) (byte_order e.0 shards_end) is)

  -- where none of the rows is the onode, it is missing
  none_among : ((value : List ℕ) → In own_rows (onode, value) → ⊥) → finite.get rows onode ≡ None
  none_among none = elim (finite.get rows onode) as (λ (r : Option (List ℕ)). finite.get rows onode ≡ r → r ≡ None) [
    | None ↦ λ is. refl
    | Some value ↦ λ is. absurd (none value (in_filtered is_own (entries rows) (onode, value)
        (both_so (byte_order onode onode) (byte_order onode shards_end) (λ less. let tied = tied_itself nat_list_cmp_total onode in absurd cc)
        (onode_ends w rows c o coll name good))
        (stands_at w rows c o coll name good (onode, value) is)))
  ] refl

  module _ (x : List ℕ × List ℕ) (rest : List (List ℕ × List ℕ)) (are : own_rows ≡ x ∷ rest) where
    first_own : IsOwn x
    first_own = (subst (AllByRecursion IsOwn) are all_own).0

    rise : KeysRise (x ∷ rest)
    rise = subst KeysRise are all_rise

    -- the rows behind the onode are those of its shards
    shards_behind : x.0 ≡ onode → rest ≡ shard_rows
    shards_behind is =
        let shards = both_all (λ e. byte_order x.0 e.0 ≡ Less) IsOwn (IsShardEntry w c o)
        (λ e less its. is_shard e (ap (λ k. byte_order k e.0) (sym is) ∙ less) its) rest rise.0 (subst (AllByRecursion IsOwn) are all_own).1 in
        sym (all_pass is_between rest (all_so (IsShardEntry w c o) (λ e. is_between e ≡ true) (between w rows c o coll name good) rest shards))
        ∙ sym (fails is_between x rest (ap (own.is_between w c o) is ∙ onode_outside w rows c o coll name good))
        ∙ ap (filter is_between) (sym are)
        ∙ filtered_twice is_between is_own within (entries rows)

    pub first_spells : (value : List ℕ) → x.0 ≡ onode_key c o → value ≡ x.1 → (size : ℕ) × SpellsOnode value size
    first_spells value is value_is = value_is_onode w rows c o coll name good x value first_own.stands is value_is

    -- their extents ascend
    pub rest_ascends : x.0 ≡ onode_key c o → ExtentsAscend (rows_read w rest)
    rest_ascends is = subst (λ v. ExtentsAscend (rows_read v rest)) good.wide (pages_ascend rows c o rest coll name good.store (shards_behind is))

    pub is_found : (value : List ℕ) (size : ℕ) → x.0 ≡ onode_key c o → value ≡ x.1 → SpellsOnode value size → IsObjectFound w rows c o size (rows_read w rest)
    is_found value size is value_is spelled =
        let finds = pages_found rows c o rest coll name good.store (shards_behind is) in
        record {
          has_size = size_is_read w rows c o coll name good x value size first_own.stands is value_is spelled;
          are_pages = subst (λ v. FindPagesOf v rows c o (rows_read v rest)) good.wide finds;
          numbers = subst (λ v. (page : ℕ) → HasNumber (rows_read v rest) page) good.wide
              (numbers_fit rows c o (rows_read (width_of good.store.sup) rest) coll name good.store finds);
        }

    -- another one in front: it is missing
    pub missing_behind : x.0 ≢ onode_key c o → finite.get rows (onode_key c o) ≡ None
    missing_behind apart = none_among (λ value there. elim (subst (λ l. In l (onode, value)) are there) [
      | inl same ↦ apart (ap (λ (e : Entry). e.0) same)
      | inr later ↦ first_own.from (in_all (λ e. byte_order x.0 e.0 ≡ Less) rest (onode, value) rise.0 later)
    ])

  pub missing_of_none : own_rows ≡ [] → finite.get rows (onode_key c o) ≡ None
  missing_of_none are = none_among (λ value there. subst (λ l. In l (onode, value)) are there)
