-- A plan over rows is one over all that agree with them on its collection.
use Rattle.std.proofs.Common.{◌≡◌, ◌⊎◌, ◌↔◌, inl, inr, ℕ, ◌<◌, ◌≤◌, ◌^◌, true, List, [], ◌∷◌, Contains, Option, Some, None, is_some, refl, sym, ap, subst, ◌∙◌, arith}
use Rattle.std.specs.List.{AllByRecursion}
use Rattle.std.specs.FinMap as finite
use Rattle.meta_rows.specs.Prelude.{Rows, rows_after, key_of, LeaveAlone}
use Rattle.meta_rows.specs.declared.row_op.RowOp.{RowOp}
use Rattle.meta_rows.proofs.BatchLemmas.{only_its_own}
use Rattle.meta_rows.proofs.RowLemmas.{get-rows_after_other}
use Rattle.unit_fields.specs.declared.width.Width.{Width}
use Rattle.object_model.specs.Prelude.{is_named}
use Rattle.row_format.specs.Prelude.{coll_key, onode_key, shard_key, shared_key, Place, own, slot}
use Rattle.store_image.specs.Prelude.{IsPageAt, PageUnit, StandsOn, IsNamedBy}
use Rattle.store_image.proofs.Prelude.{slot_still}
use Rattle.blob_map.specs.Prelude.{PageMap}
use Rattle.plan_drafts.specs.Prelude.{Held, KeysAscend, Changes, IsDifference, Layout, HasLayout, or_empty, GetsShards, stay, cut, GetsLayout, ValueKey, attribute, header, pair, value_key, CollDraft, Begins, IsKeyOfColl, IsKeyOfDraft, GetsDraft, laid_at, IsKeyIn, AgreeOn, indexes_of, times_in, blob_after, IsFreed}
use Rattle.plan_rows.specs.declared.plan.SlotNo.{SlotNo}
use Rattle.plan_proofs.proofs.Slots.{page_names, layout_page, left_or_none}
use Rattle.plan_proofs.proofs.Difference.{same_unnamed}

-- ---- keys

pub value_key_in : (c o : List ℕ) (k : ValueKey) → IsKeyIn c (value_key c o k)
value_key_in c o (attribute n) = inr (0x41, o, _, inr (inl refl), refl)
value_key_in c o header = inr (0x4d, o, _, inr (inr refl), refl)
value_key_in c o (pair q) = inr (0x4d, o, _, inr (inr refl), refl)

-- keys of the collection are keys in it
pub key_in : (c key : List ℕ) → IsKeyOfColl c key → IsKeyIn c key
key_in c key (inl e) = inl e
key_in c key (inr (o, name, inl (inl e))) = inr (0x4f, o, _, inl refl, e)
key_in c key (inr (o, name, inl (inr p))) = inr (0x4f, o, _, inl refl, p.2)
key_in c key (inr (o, name, inr its)) = subst (IsKeyIn c) (sym its.is) (value_key_in c o its.of)

-- where all other keys are left alone, each operation is on one of these
pub all_named : (P : List ℕ → Type 0) (ops : List RowOp) → ((key : List ℕ) → P key ⊎ LeaveAlone ops key) → AllByRecursion (λ op. P (key_of op)) ops
all_named P [] each = tt
all_named P (op ∷ ops) each = (
  elim (each (key_of op)) [ inl is ↦ is | inr alone ↦ absurd (alone.0 refl) ],
  all_named P ops (λ key. elim (each key) [ inl is ↦ inl is | inr alone ↦ inr alone.1 ]),
)

-- ---- rows that agree

-- a row after operations depends on what it was alone
pub same_after : (rows other : Rows) (ops : List RowOp) (key : List ℕ) → finite.get other key ≡ finite.get rows key
    → finite.get (rows_after other ops) key ≡ finite.get (rows_after rows ops) key
same_after rows other ops key same =
    only_its_own key (λ op. true) (λ op is. refl) other rows ops same ∙ sym (only_its_own key (λ op. true) (λ op is. refl) rows rows ops refl)

-- the others have what these have of the collection, and of the blobs that its shards name
pub record HasSame (w : Width) (c : List ℕ) (rows other : Rows) : Type 0 where
  pub own : (key : List ℕ) → IsKeyIn c key → finite.get other key ≡ finite.get rows key
  pub blobs : (sbid : ℕ) → IsNamedBy w rows c sbid → finite.get other (shared_key sbid) ≡ finite.get rows (shared_key sbid)

-- so it is where they agree on its names
pub same_where_agreed : (w : Width) (names : List (List ℕ)) (c : List ℕ) (rows other : Rows) → is_named c names ≡ true → AgreeOn w names other rows
    → HasSame w c rows other
same_where_agreed w names c rows other among agree = record {
  own = own_same;
  blobs = λ sbid named. agree.blobs c sbid among (record {
    object = named.object;
    page = named.page;
    extents = named.extents;
    has_shard = record {
      fits = named.has_shard.fits;
      stands = own_same (shard_key c named.object named.page) (inr (0x4f, named.object, _, inl refl, refl)) ∙ named.has_shard.stands;
    };
    names = named.names;
  });
}
  where
    own_same : (key : List ℕ) → IsKeyIn c key → finite.get other key ≡ finite.get rows key
    own_same key its = agree.own key (record { coll = c; among = among; of = its })

module _ (w : Width) (c : List ℕ) (rows other : Rows) (agree : HasSame w c rows other) where
  onode_in : (o : List ℕ) → finite.get other (onode_key c o) ≡ finite.get rows (onode_key c o)
  onode_in o = agree.own (onode_key c o) (inr (0x4f, o, _, inl refl, refl))

  shard_in : (o : List ℕ) (page : ℕ) → finite.get other (shard_key c o page) ≡ finite.get rows (shard_key c o page)
  shard_in o page = agree.own (shard_key c o page) (inr (0x4f, o, _, inl refl, refl))

  module _ (o : List ℕ) where
    page_there : (page : ℕ) (place : Place) → IsPageAt w rows c o page place → IsPageAt w other c o page place
    page_there page place is = record {
      first = is.first;
      extents = is.extents;
      has_shard = record { fits = is.has_shard.fits; stands = shard_in o is.first ∙ is.has_shard.stands };
      has_page = is.has_page;
    }

    page_back : (page : ℕ) (place : Place) → IsPageAt w other c o page place → IsPageAt w rows c o page place
    page_back page place is = record {
      first = is.first;
      extents = is.extents;
      has_shard = record { fits = is.has_shard.fits; stands = sym (shard_in o is.first) ∙ is.has_shard.stands };
      has_page = is.has_page;
    }

    layout_there : (x : Option Layout) → HasLayout w rows c o x → HasLayout w other c o x
    layout_there None none = onode_in o ∙ none
    layout_there (Some l) has = (
      record { fits = has.0.fits; stands = onode_in o ∙ has.0.stands },
      λ page place. (λ found. page_there page place ((has.1 page place).0 found), λ is. (has.1 page place).1 (page_back page place is)),
    )

    place_there : (page : ℕ) (place : Place) (on : PageUnit) → IsPageAt w rows c o page place → StandsOn w rows place on → StandsOn w other place on
    place_there page (own unit csum) on at stands = stands
    place_there page (slot sbid index) on at (x, (has, kept)) =
        (x, (slot_still w rows other sbid index on.unit x (agree.blobs sbid (page_names w rows c o page sbid index at)) has, kept))

  pub begins_there : (layouts : List ℕ → Option Layout) (d : CollDraft) → Begins w rows c layouts d → Begins w other c layouts d
  begins_there layouts d begins = record {
    there = begins.there ∙ ap is_some (sym (agree.own (coll_key c) (inl refl)));
    has = λ o name. layout_there o (layouts o) (begins.has o name);
    drafts = begins.drafts;
    values = λ o k name named. begins.values o k name named ∙ sym (agree.own (value_key c o k) (value_key_in c o k));
    none_taken = begins.none_taken;
    none_left = begins.none_left;
    stand = λ o page place name is. place_there o page place (d.on place)
        (layout_page w rows c o (layouts o) (begins.has o name) page place is) (begins.stand o page place name is);
  }

  -- ---- slots that pages left

  module _ (ss : List SlotNo) (left : (x : SlotNo) → Contains ss x → IsNamedBy w rows c x.sbid) where
    -- a slot that pages left is of a blob whose row is the same
    left_same : (sbid index count : ℕ) → 0 < count → count ≤ times_in (indexes_of sbid ss) index
        → finite.get other (shared_key sbid) ≡ finite.get rows (shared_key sbid)
    left_same sbid index count some all = elim (left_or_none sbid ss) [
      | inl none ↦ absurd (omega (arith, some, all, ap (λ ks. times_in ks index) none))
      | inr one ↦ agree.blobs sbid (subst (IsNamedBy w rows c) one.2 (left one.0 one.1))
    ]

    -- so the same units are freed
    pub freed_there : (unit : ℕ) → IsFreed w rows ss unit ↔ IsFreed w other ss unit
    freed_there unit = (
      λ f. record {
        sbid = f.sbid;
        index = f.index;
        is = f.is;
        has_slot = slot_still w rows other f.sbid f.index unit f.is (left_same f.sbid f.index f.is.count f.counted f.all_leave) f.has_slot;
        counted = f.counted;
        all_leave = f.all_leave;
      },
      λ f. record {
        sbid = f.sbid;
        index = f.index;
        is = f.is;
        has_slot = slot_still w other rows f.sbid f.index unit f.is (sym (left_same f.sbid f.index f.is.count f.counted f.all_leave)) f.has_slot;
        counted = f.counted;
        all_leave = f.all_leave;
      },
    )

-- ---- operations on rows that agree

module _ (rows : Rows) (ops : List RowOp) (order : KeysAscend ops) (changes : AllByRecursion (Changes rows) ops) where
  as_difference : IsDifference rows (rows_after rows ops) ops
  as_difference = record { in_order = order; changes = changes; makes = refl }

  -- a row that stays is changed by none of the operations
  left_alone : (key : List ℕ) → finite.get (rows_after rows ops) key ≡ finite.get rows key → LeaveAlone ops key
  left_alone key same = same_unnamed rows (rows_after rows ops) ops key as_difference same

  -- the keys of the operations
  pub keys_named : (w : Width) (c : List ℕ) (layouts : List ℕ → Option Layout) (units : List ℕ) (held : Held) (d : CollDraft)
      → GetsDraft w rows (rows_after rows ops) c layouts units held d → AllByRecursion (λ op. IsKeyOfDraft c d (key_of op)) ops
  keys_named w c layouts units held d gets =
      all_named (IsKeyOfDraft c d) ops (λ key. elim (gets.others key) [ inl its ↦ inl its | inr same ↦ inr (left_alone key same) ])

  module _ (w : Width) (c : List ℕ) (other : Rows) (agree : HasSame w c rows other) where
    then_same : (key : List ℕ) → IsKeyIn c key → finite.get (rows_after other ops) key ≡ finite.get (rows_after rows ops) key
    then_same key its = same_after rows other ops key (agree.own key its)

    shard_then : (o : List ℕ) (page : ℕ) → finite.get (rows_after other ops) (shard_key c o page) ≡ finite.get (rows_after rows ops) (shard_key c o page)
    shard_then o page = then_same (shard_key c o page) (inr (0x4f, o, _, inl refl, refl))

    gets_shards_there : (o : List ℕ) (x y : PageMap) → GetsShards w rows (rows_after rows ops) c o x y → GetsShards w other (rows_after other ops) c o x y
    gets_shards_there o x y (stay e same) = stay e (λ page lt. shard_then o page ∙ same page lt ∙ sym (shard_in w c rows other agree o page))
    gets_shards_there o x y (cut apart are) = cut apart (λ page lt. shard_then o page ∙ are page lt)

    gets_layout_there : (o : List ℕ) (x y : Option Layout) → GetsLayout w rows (rows_after rows ops) c o x y
        → GetsLayout w other (rows_after other ops) c o x y
    gets_layout_there o x y gets = record {
      onode = then_same (onode_key c o) (inr (0x4f, o, _, inl refl, refl)) ∙ gets.onode;
      shards = gets_shards_there o (or_empty x).pages (or_empty y).pages gets.shards;
    }

    module _ (layouts : List ℕ → Option Layout) (units : List ℕ) (held : Held) (d : CollDraft)
        (left : (x : SlotNo) → Contains d.unshared x → IsNamedBy w rows c x.sbid) (gets : GetsDraft w rows (rows_after rows ops) c layouts units held d) where
      -- a blob's row becomes there what it becomes here, whether pages left its slots or not
      blob_there : (sbid : ℕ) → sbid < 2 ^ 64
          → finite.get (rows_after other ops) (shared_key sbid) ≡ blob_after w (finite.get other (shared_key sbid)) (indexes_of sbid d.unshared)
      blob_there sbid low = elim (left_or_none sbid d.unshared) [
        | inl none ↦
            let same : finite.get (rows_after rows ops) (shared_key sbid) ≡ finite.get rows (shared_key sbid) =
            gets.blobs sbid low ∙ ap (blob_after w (finite.get rows (shared_key sbid))) none in
            get-rows_after_other other ops (shared_key sbid) (left_alone (shared_key sbid) same)
            ∙ sym (ap (blob_after w (finite.get other (shared_key sbid))) none)
        | inr one ↦
            let agreed = agree.blobs sbid (subst (IsNamedBy w rows c) one.2 (left one.0 one.1)) in
            same_after rows other ops (shared_key sbid) agreed ∙ gets.blobs sbid low
            ∙ ap (λ v. blob_after w v (indexes_of sbid d.unshared)) (sym agreed)
      ]

      pub gets_there : GetsDraft w other (rows_after other ops) c layouts units held d
      gets_there = record {
        coll = then_same (coll_key c) (inl refl) ∙ gets.coll;
        objects = λ o name. gets_layout_there o (layouts o) (laid_at units held d o) (gets.objects o name);
        values = λ o k name named. then_same (value_key c o k) (value_key_in c o k) ∙ gets.values o k name named;
        blobs = blob_there;
        others = λ key. elim (gets.others key) [
          | inl its ↦ inl its
          | inr same ↦ inr (get-rows_after_other other ops key (left_alone key same))
        ];
      }
