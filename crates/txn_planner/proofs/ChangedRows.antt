-- What is seen through the changes at the end of planning are the rows of the draft.
use Rattle.std.proofs.Common.{◌≡◌, ◌⊎◌, inl, inr, ℕ, ◌<◌, ◌≤◌, ◌^◌, Bool, true, false, cond, List, length, Option, Some, None, is_some, refl, sym, ap, subst, ◌∙◌, arith}
use Rattle.std.specs.Prelude.{unwrap_or, ◌||◌}
use Rattle.std.specs.Int.{w64, to_le_bytes}
use Rattle.std.specs.List.{list_any}
use Rattle.std.specs.Option.{option_map}
use Rattle.std.specs.Ordering.{nat_cmp}
use Rattle.std.specs.FinMap as finite
use Rattle.std.proofs.lemmas.Bool.{cases_Bool}
use Rattle.unit_fields.specs.Prelude.{IsName, IsCollName}
use Rattle.unit_fields.specs.declared.width.Width.{Width}
use Rattle.object_model.specs.Prelude.{Change}
use Rattle.meta_rows.specs.Prelude.{Rows}
use Rattle.row_format.specs.Prelude.{coll_key, onode_key, shard_key, Extent, Place}
use Rattle.extent_shards.specs.Prelude.{shard_bytes, shard_at}
use Rattle.row_facts.proofs.Maps.{get_same, get_other}
use Rattle.row_changes.specs.Prelude.{ChangeMap, value_seen}
use Rattle.store_image.specs.Prelude.{pages_of}
use Rattle.store_image.proofs.Prelude.{equal_or_not}
use Rattle.plan_drafts.specs.declared.draft.Draft.{Draft}
use Rattle.plan_drafts.specs.Prelude.{Held, is_there, Layout, HasLayout, or_empty, IsKeyOf, size_at, AreCut, GetsShards, stay, cut, GetsLayout, ValueKey, value_key, IsValueKey, CollDraft, laid, laid_at, IsKeyOfColl}
use Rattle.plan_proofs.proofs.Laid.{laid_cases, StandsAt, by_taking, as_before}
use Rattle.plan_proofs.proofs.Reached.{IsReached}
use Rattle.txn_planner.specs.declared.planning.Planning.{Planning}
use Rattle.txn_planner.specs.declared.touched.Touched.{Touched}
use Rattle.txn_planner.specs.Planning.{IsStateOf}
use Rattle.txn_planner.specs.Touching.{IsTouched}
use Rattle.txn_planner.specs.Laying.{is_moved, PutsBelow, AllTakeBelow, AllNamed, laid_now, cut_of, with_objects, coll_row, is_on_coll, with_rows, HasCollRow, AreNew, HaveNumbers}
use Rattle.page_edits.proofs.Lists.{contains_in}
use Rattle.txn_planner.proofs.ObjectNames.{among_keys}
use Rattle.txn_planner.proofs.SameLayouts.{laid_again, same_pages, other_pages}
use Rattle.txn_planner.proofs.ObjectRows.{coll_apart, value_apart, value_no_coll, IsCutOver, AreSmall, IsLaid, AreSound, objects_others, objects_kept, objects_laid}

-- what a page that stands somewhere is in one of the draft's maps
stands_there : (units : List ℕ) (held : Held) (x : Draft) (page : ℕ) (place : Place) → StandsAt units held x page place → is_there x page ≡ true
stands_there units held x page _ (by_taking taking put) =
    ap (λ (z : Option ℕ). finite.contains_key x.kept page || is_some z) put ∙ or_true (finite.contains_key x.kept page)
  where
    or_true : (b : Bool) → (b || true) ≡ true
    or_true true = refl
    or_true false = refl
stands_there units held x page place (as_before _ none kept) = ap (λ (z : Option Place). is_some z || finite.contains_key x.puts page) kept

module _ (w : Width) (rows : Rows) (change : Change) (coll : IsCollName change.coll) (p : Planning) (units : List ℕ) (held : Held)
    (below : AllTakeBelow (length units) p.objects) (layouts : List ℕ → Option Layout) (d : CollDraft) (state : IsStateOf rows change.coll layouts d p)
    (has : (o : List ℕ) → IsName o → HasLayout w rows change.coll o (layouts o)) (had_coll : HasCollRow rows change d)
    (new : AreNew layouts units) (numbers : HaveNumbers d) where
  abbrev c : List ℕ
  c = change.coll

  abbrev changes : ChangeMap
  changes = with_objects w rows c units held (finite.keys p.objects) p.objects p.values

  -- the changes, where an operation is on the collection or none is
  abbrev either_rows : Bool → ChangeMap
  either_rows b = cond b (finite.insert changes (coll_key c) (coll_row p.there)) changes

  small_now : (o : List ℕ) (t : Touched) → finite.get p.objects o ≡ Some t → AreSmall (or_empty (laid_now units held t)).pages
  small_now o t is page place = by t.now refl
    where
      by : (z : Option Draft) → t.now ≡ z → finite.get (or_empty (option_map (laid units held) z)).pages page ≡ Some place → page < 2 ^ 32
      by None q found = absurd (let none = sym (finite.get-empty nat_cmp page) ∙ found in cc)
      by (Some x) q found =
          let touched = state.touched o t is in
          numbers o x touched.named (sym touched.now_is ∙ q) page (stands_there units held x page place (laid_cases units held x page place found))

  sound : AreSound units held p.objects
  sound = record {
    named = λ o t is. (state.touched o t is).named;
    below = λ o t is. (state.touched o t is).shards.below;
    numbers = small_now;
  }

  -- no onode and no shard is among the values
  no_value : (o key : List ℕ) → IsKeyOf c o key → finite.get p.values key ≡ None
  no_value o key of = by (finite.get p.values key) refl
    where
      by : (z : Option (Option (List ℕ))) → finite.get p.values key ≡ z → z ≡ None
      by None q = refl
      by (Some v) q = let its = state.of_values key (ap is_some q) in absurd (value_apart c o its.0 key of its.2)

  -- a value's key is as it was
  value_kept : (o : List ℕ) (k : ValueKey) → IsValueKey k → finite.get changes (value_key c o k) ≡ finite.get p.values (value_key c o k)
  value_kept o k named = elim (objects_others w rows c coll units held (finite.keys p.objects) p.objects p.values sound (value_key c o k)) [
    | inl its ↦ absurd (value_apart c its.0 o (value_key c o k) its.2 (record { of = k; named = named; is = refl }))
    | inr same ↦ same
  ]

  -- nor is the row of the collection
  no_coll : finite.get changes (coll_key c) ≡ None
  no_coll = elim (objects_others w rows c coll units held (finite.keys p.objects) p.objects p.values sound (coll_key c)) [
    | inl its ↦ absurd (coll_apart c its.0 (coll_key c) its.2 refl)
    | inr same ↦ same ∙ by (finite.get p.values (coll_key c)) refl
  ]
    where
      by : (z : Option (Option (List ℕ))) → finite.get p.values (coll_key c) ≡ z → z ≡ None
      by None q = refl
      by (Some v) q = let its = state.of_values (coll_key c) (ap is_some q) in absurd (value_no_coll c its.0 its.2.of (sym its.2.is))

  rows_others : (key : List ℕ) → (key ≡ coll_key c → ⊥) → finite.get (with_rows w rows change units held p) key ≡ finite.get changes key
  rows_others key apart = elim (cases_Bool (list_any is_on_coll change.ops)) [
    | inl on ↦ ap (λ b. finite.get (either_rows b) key) on ∙ get_other changes (coll_key c) (coll_row p.there) key apart
    | inr none ↦ ap (λ b. finite.get (either_rows b) key) none
  ]

  -- its onode says of an object how long it is
  onode_had : (o : List ℕ) → IsName o → finite.get rows (onode_key c o) ≡ option_map (to_le_bytes w64) (size_at (layouts o))
  onode_had o name = by (layouts o) (has o name)
    where
      by : (l : Option Layout) → HasLayout w rows c o l → finite.get rows (onode_key c o) ≡ option_map (to_le_bytes w64) (size_at l)
      by None none = none
      by (Some l) there = there.0.stands

  -- of all other rows none is changed
  pub others : (key : List ℕ) → IsKeyOfColl c key ⊎ (finite.get (with_rows w rows change units held p) key ≡ None)
  others key = elim (equal_or_not key (coll_key c)) [
    | inl e ↦ inl (inl e)
    | inr apart ↦ elim (objects_others w rows c coll units held (finite.keys p.objects) p.objects p.values sound key) [
      | inl its ↦ inl (inr (its.0, its.1, inl its.2))
      | inr same ↦ by (rows_others key apart ∙ same) (finite.get p.values key) refl
    ]
  ]
    where
      by : finite.get (with_rows w rows change units held p) key ≡ finite.get p.values key → (z : Option (Option (List ℕ)))
          → finite.get p.values key ≡ z → IsKeyOfColl c key ⊎ (finite.get (with_rows w rows change units held p) key ≡ None)
      by same None q = inr (same ∙ q)
      by same (Some v) q = let its = state.of_values key (ap is_some q) in inl (inr (its.0, its.1, inr its.2))

  -- rows after, as far as they are the collection's
  module _ (after : Rows)
      (are : (key : List ℕ) → IsKeyOfColl c key → finite.get after key ≡ value_seen rows (with_rows w rows change units held p) key) where
    abbrev seen_as : List ℕ → Option (Option (List ℕ)) → Option (List ℕ)
    seen_as key z = unwrap_or z (finite.get rows key)

    pub coll_after : finite.get after (coll_key c) ≡ coll_row d.there
    coll_after = are (coll_key c) (inl refl) ∙ elim (cases_Bool (list_any is_on_coll change.ops)) [
      | inl on ↦ ap (λ b. seen_as (coll_key c) (finite.get (either_rows b) (coll_key c))) on
          ∙ ap (seen_as (coll_key c)) (get_same changes (coll_key c) (coll_row p.there)) ∙ ap coll_row state.there
      | inr none ↦ ap (λ b. seen_as (coll_key c) (finite.get (either_rows b) (coll_key c))) none
          ∙ ap (seen_as (coll_key c)) no_coll ∙ had_coll none
    ]

    seen_by : (key : List ℕ) → IsKeyOfColl c key → (key ≡ coll_key c → ⊥) → finite.get after key ≡ seen_as key (finite.get changes key)
    seen_by key of apart = are key of ∙ ap (seen_as key) (rows_others key apart)

    seen_object : (o key : List ℕ) → IsName o → IsKeyOf c o key → finite.get after key ≡ seen_as key (finite.get changes key)
    seen_object o key name of = seen_by key (inr (o, name, inl of)) (coll_apart c o key of)

    -- ---- an object

    module _ (o : List ℕ) (name : IsName o) where
      seen_onode : finite.get after (onode_key c o) ≡ seen_as (onode_key c o) (finite.get changes (onode_key c o))
      seen_onode = seen_object o (onode_key c o) name (inl refl)

      seen_shard : (page : ℕ) → page < 2 ^ 32 → finite.get after (shard_key c o page) ≡ seen_as (shard_key c o page) (finite.get changes (shard_key c o page))
      seen_shard page lt = seen_object o (shard_key c o page) name (inr (page, lt, refl))

      -- one that no operation has looked at
      module _ (none : finite.get p.objects o ≡ None) where
        untouched_same : layouts o ≡ laid_at units held d o
        untouched_same = laid_again units held (layouts o) ∙ ap (option_map (laid units held)) (sym (state.untouched o name none))

        no_change : (key : List ℕ) → IsKeyOf c o key → finite.get changes key ≡ None
        no_change key of = objects_kept w rows c coll units held (finite.keys p.objects) p.objects p.values o name sound none key of ∙ no_value o key of

        gets_untouched : GetsLayout w rows after c o (layouts o) (laid_at units held d o)
        gets_untouched = record {
          onode = seen_onode ∙ ap (seen_as (onode_key c o)) (no_change (onode_key c o) (inl refl)) ∙ onode_had o name
              ∙ ap (λ z. option_map (to_le_bytes w64) (size_at z)) untouched_same;
          shards = stay (ap (λ z. (or_empty z).pages) untouched_same)
              (λ page lt. seen_shard page lt ∙ ap (seen_as (shard_key c o page)) (no_change (shard_key c o page) (inr (page, lt, refl))));
        }

      -- one that some have
      module _ (t : Touched) (is : finite.get p.objects o ≡ Some t) where
        abbrev touched : IsTouched rows c o (layouts o) (d.layout o) t
        touched = state.touched o t is

        now_laid : laid_now units held t ≡ laid_at units held d o
        now_laid = ap (option_map (laid units held)) touched.now_is

        as_draft : is_moved t.left t.now ≡ is_moved t.left (d.layout o)
        as_draft = ap (is_moved t.left) touched.now_is

        takes : PutsBelow (length units) (d.layout o)
        takes = subst (PutsBelow (length units)) touched.now_is (below o t is)

        lays : IsLaid w rows c o t (laid_now units held t) p.values changes
        lays = objects_laid w rows c coll units held (finite.keys p.objects) p.objects p.values o t name sound (among_keys p.objects o t is) is

        onode_now : finite.get after (onode_key c o) ≡ option_map (to_le_bytes w64) (size_at (laid_now units held t))
        onode_now = seen_onode ∙ elim lays.onode [
          | inl says ↦ ap (seen_as (onode_key c o)) says
          | inr kept ↦ ap (seen_as (onode_key c o)) (kept.1 ∙ no_value o (onode_key c o) (inl refl)) ∙ onode_had o name
              ∙ ap (option_map (to_le_bytes w64)) (sym touched.before ∙ kept.0)
        ]

        -- ---- its map is cut anew

        module _ (cut_over : IsCutOver w rows c o t.shards.items (or_empty (laid_now units held t)).pages p.values changes) where
          abbrev shards : List (List Extent)
          shards = cut_of w (or_empty (laid_now units held t)).pages

          -- a shard that was there is gone, and one that wasn't is none
          none_now : (page : ℕ) → page < 2 ^ 32 → shard_at shards page ≡ None → (z : Option (List ℕ)) → finite.get rows (shard_key c o page) ≡ z
              → seen_as (shard_key c o page) (finite.get changes (shard_key c o page)) ≡ None
          none_now page lt none (Some value) q =
              ap (seen_as (shard_key c o page)) (cut_over.gone page lt none (contains_in t.shards.items page (touched.shards.all page lt (ap is_some q))))
          none_now page lt none None q = elim (cut_over.other page lt none) [
            | inl gone ↦ ap (seen_as (shard_key c o page)) gone
            | inr same ↦ ap (seen_as (shard_key c o page)) (same ∙ no_value o (shard_key c o page) (inr (page, lt, refl))) ∙ q
          ]

          shard_now : (page : ℕ) → page < 2 ^ 32 → (z : Option (List Extent)) → shard_at shards page ≡ z
              → seen_as (shard_key c o page) (finite.get changes (shard_key c o page)) ≡ option_map (shard_bytes w) z
          shard_now page lt None q = none_now page lt q (finite.get rows (shard_key c o page)) refl
          shard_now page lt (Some es) q = elim (cut_over.come page es lt q) [
            | inl says ↦ ap (seen_as (shard_key c o page)) says
            | inr kept ↦ ap (seen_as (shard_key c o page)) (kept.1 ∙ no_value o (shard_key c o page) (inr (page, lt, refl))) ∙ kept.0
          ]

          are_cut : AreCut w after c o (or_empty (laid_now units held t)).pages
          are_cut page lt = seen_shard page lt ∙ shard_now page lt (shard_at shards page) refl

        shards_now : GetsShards w rows after c o (or_empty (layouts o)).pages (or_empty (laid_at units held d o)).pages
        shards_now = elim (cases_Bool (is_moved t.left t.now)) [
          | inl moved ↦ cut
              (other_pages units held (layouts o) (λ page unit csum. new o page unit csum name) t.left (d.layout o) touched.gone takes (sym as_draft ∙ moved))
              (subst (λ z. AreCut w after c o (or_empty z).pages) now_laid (are_cut (lays.moved moved)))
          | inr not ↦ stay (same_pages units held (layouts o) t.left (d.layout o) touched.kept (sym as_draft ∙ not))
              (λ page lt. seen_shard page lt
              ∙ ap (seen_as (shard_key c o page)) (lays.still not page lt ∙ no_value o (shard_key c o page) (inr (page, lt, refl))))
        ]

        gets_touched : GetsLayout w rows after c o (layouts o) (laid_at units held d o)
        gets_touched = record { onode = onode_now ∙ ap (λ z. option_map (to_le_bytes w64) (size_at z)) now_laid; shards = shards_now }

      pub gets_object : GetsLayout w rows after c o (layouts o) (laid_at units held d o)
      gets_object = by (finite.get p.objects o) refl
        where
          by : (z : Option Touched) → finite.get p.objects o ≡ z → GetsLayout w rows after c o (layouts o) (laid_at units held d o)
          by None q = gets_untouched q
          by (Some t) q = gets_touched t q

    -- ---- values

    pub gets_value : (o : List ℕ) (k : ValueKey) → IsName o → IsValueKey k → finite.get after (value_key c o k) ≡ d.value o k
    gets_value o k name named = seen_by (value_key c o k) (inr (o, name, inr (record { of = k; named = named; is = refl }))) (value_no_coll c o k)
        ∙ ap (seen_as (value_key c o k)) (value_kept o k named) ∙ state.values o k name named

-- ---- what a caller knows of a draft that operations have led to

module _ (layouts : List ℕ → Option Layout) (d : CollDraft) (reached : IsReached layouts d) where
  pub numbers_fit : HaveNumbers d
  numbers_fit o x name is page there =
      let r = reached.objects o x name is in
      let few : pages_of x.size ≤ 2 ^ 32 = omega (arith, r.most) in
      omega (arith, r.ends page there, few)

  module _ (rows : Rows) (c : List ℕ) (p : Planning) (state : IsStateOf rows c layouts d p) where
    pub all_named : AllNamed p.objects
    all_named o t is = (state.touched o t is).named

    -- the takings are those of the draft, of which there are no more than so many
    pub all_taken : (n : ℕ) → d.taken ≤ n → AllTakeBelow n p.objects
    all_taken n most o t is x page taking there put =
        let touched = state.touched o t is in
        let below : taking < d.taken = (reached.objects o x touched.named (sym touched.now_is ∙ there)).below page taking put in
        omega (arith, below, most)
