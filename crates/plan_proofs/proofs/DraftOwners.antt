-- Who owns which unit after the operations of a transaction.
use Rattle.std.proofs.Common.{◌≡◌, ◌≢◌, ◌⊎◌, inl, inr, ℕ, Bool, true, false, List, Option, Some, None, refl, sym, ap, subst, ◌∙◌, arith}
use Rattle.std.specs.Prelude.{slice_index}
use Rattle.std.specs.Option.{option_map}
use Rattle.std.specs.Ordering.{nat_cmp}
use Rattle.std.specs.FinMap as finite
use Rattle.std.proofs.lemmas.Bool.{cases_lt}
use Rattle.crc32c_csum.specs.Prelude.{crc32c}
use Rattle.meta_rows.specs.Prelude.{Rows}
use Rattle.meta_log.specs.declared.slot.Super.{Super}
use Rattle.meta_log.specs.Prelude.{width_of}
use Rattle.unit_fields.specs.Prelude.{IsName, IsCollName}
use Rattle.row_format.specs.Prelude.{Place, own, Slot, shard}
use Rattle.store_image.specs.Prelude.{IsPageAt, HasSlot, NoBadRow, Owner, page_of, slot_of, Owns, IsOwned, HasSoleOwner}
use Rattle.store_image.proofs.Prelude.{equal_or_not, in_place}
use Rattle.plan_drafts.specs.declared.draft.Draft.{Draft}
use Rattle.plan_drafts.specs.Prelude.{Held, IsMapOf, Layout, HasLayout, or_empty, or_new, CollDraft, place_put, laid, Stands, Leaves, indexes_of, times_in, IsFreed}
use Rattle.plan_proofs.proofs.Drafted.{AreDrafted}
use Rattle.plan_proofs.proofs.BlobRows.{SlotWas, one_slot, slot_was, slot_kept}
use Rattle.plan_proofs.proofs.DraftCounts.{still_page}
use Rattle.plan_proofs.proofs.DraftRows.{now, OfDraft, of_draft, object_reached, map_was, map_now, other_page}
use Rattle.plan_proofs.proofs.Laid.{StandsAt, by_taking, as_before, laid_put}

-- the pages of a layout
pub layout_pages : (s : Super) (rows : Rows) (c o : List ℕ) (x : Option Layout) → NoBadRow s rows → HasLayout (width_of s) rows c o x
    → IsMapOf (width_of s) rows c o (or_empty x).pages
layout_pages s rows c o None good none page place = (
  λ found. absurd (let t = sym (finite.get-empty nat_cmp page) ∙ found in cc),
  λ is. absurd (let t = sym (in_place s rows (shard c o is.first is.extents) good is.has_shard).has_onode ∙ ap finite_some none in cc),
)
  where
    finite_some : Option (List ℕ) → Bool
    finite_some (Some v) = true
    finite_some None = false
layout_pages s rows c o (Some x) good has page place = has.1 page place

-- a place's unit
same_unit : (a b c d : ℕ) → own a b ≡ own c d → a ≡ c
same_unit a b c d e = cc

module _ (s : Super) (rows after : Rows) (c : List ℕ) (layouts : List ℕ → Option Layout) (units : List ℕ) (held : Held) (y : CollDraft)
    (a : AreDrafted s rows after c layouts units held y)
    (free : (taking : ℕ) → Stands y taking → ¬ IsOwned (width_of s) rows (slice_index units taking))
    (apart : (t u : ℕ) → Stands y t → Stands y u → slice_index units t ≡ slice_index units u → t ≡ u) where
  -- ---- owners after

  old_pages : (o : List ℕ) → IsName o → IsMapOf (width_of s) rows c o (or_empty (layouts o)).pages
  old_pages o name = map_was s rows after c layouts units held y a o name

  new_pages : (o : List ℕ) → IsName o → IsMapOf (width_of s) after c o (or_empty (now s rows after c layouts units held y a o)).pages
  new_pages o name = map_now s rows after c layouts units held y a o name

  -- what owns a unit is a page of a taking, or owned it before
  pub data OwnsBy (owner : Owner) (v : ℕ) : Type 0 where
    takes : (o : List ℕ) (page taking : ℕ) (d : Draft) → IsName o → y.layout o ≡ Some d → finite.get d.puts page ≡ Some taking
        → owner ≡ page_of c o page → v ≡ slice_index units taking → OwnsBy owner v
    keeps : (o : List ℕ) (page csum : ℕ) (d : Draft) → IsName o → y.layout o ≡ Some d → finite.get d.puts page ≡ None
        → finite.get d.kept page ≡ Some (own v csum) → owner ≡ page_of c o page → Owns (width_of s) rows owner v → OwnsBy owner v
    elsewhere : ((o : List ℕ) (page : ℕ) → owner ≢ page_of c o page) → Owns (width_of s) rows owner v → OwnsBy owner v

  name_of : (d u : List ℕ) (page : ℕ) (place : Place) (r : Rows) → IsPageAt (width_of s) r d u page place → IsName u
  name_of d u page place r is = is.has_shard.fits.object_name

  coll_of : (d u : List ℕ) (page : ℕ) (place : Place) (r : Rows) → IsPageAt (width_of s) r d u page place → IsCollName d
  coll_of d u page place r is = is.has_shard.fits.coll_name

  -- a slot was at its unit, with a count that is more by the pages that left it
  slot_before : (sbid index v : ℕ) (x : Slot) (has : HasSlot (width_of s) after sbid index v x)
      → SlotWas s rows after a.good sbid has.has_blob.fits.number (indexes_of sbid y.unshared) (a.gets.blobs sbid has.has_blob.fits.number) index v x
  slot_before sbid index v x has =
      let low = has.has_blob.fits.number in slot_was s rows after a.good sbid low (indexes_of sbid y.unshared) (a.gets.blobs sbid low) index v x has

  pub owners : (owner : Owner) (v : ℕ) → Owns (width_of s) after owner v → OwnsBy owner v
  owners (page_of d u page) v owns = elim (equal_or_not d c) [
    | inr other ↦ elsewhere (λ o p e. other (coll_same o p e)) (
      owns.0,
      (other_page s rows after c layouts units held y a d
          (coll_of d u page (own v owns.0) after owns.1) other u page (own v owns.0)).0 owns.1,
    )
    | inl e ↦
        let at : IsPageAt (width_of s) after c u page (own v owns.0) = subst (λ z. IsPageAt (width_of s) after z u page (own v owns.0)) e owns.1 in
        let name = name_of c u page (own v owns.0) after at in
        let of = of_draft s rows after c layouts units held y a u page (own v owns.0) ((new_pages u name page (own v owns.0)).1 at) in
        mine d u page v owns.0 e name of (own v owns.0) refl of.stands
  ]
    where
      mine : (d u : List ℕ) (page v csum : ℕ) → d ≡ c → IsName u → (of : OfDraft s rows after c layouts units held y a u page (own v csum)) → (place : Place)
          → place ≡ own v csum → StandsAt units held of.draft page place → OwnsBy (page_of d u page) v
      mine d u page v csum e name of _ same (by_taking taking put) =
          takes u page taking of.draft name of.there put (ap (λ z. page_of z u page) e)
          (sym (same_unit (slice_index units taking) (crc32c (held taking)) v csum same))
      mine d u page v csum e name of place same (as_before _ none kept) =
          let is : finite.get of.draft.kept page ≡ Some (own v csum) = kept ∙ ap Some same in
          let was : Owns (width_of s) rows (page_of c u page) v = (
            csum,
            (old_pages u name page (own v csum)).0
                ((object_reached s rows after c layouts units held y a u of.draft name of.there).kept page (own v csum) is),
          ) in
          keeps u page csum of.draft name of.there none is (ap (λ z. page_of z u page) e)
          (subst (λ z. Owns (width_of s) rows (page_of z u page) v) (sym e) was)

      coll_same : (o : List ℕ) (p : ℕ) → page_of d u page ≡ page_of c o p → d ≡ c
      coll_same o p e = cc
  owners (slot_of sbid index) v owns =
      let was = slot_before sbid index v owns.0 owns.1.0 in
      elsewhere (λ o p e. absurd cc) (was.was, (was.has_slot, omega (arith, was.count, owns.1.1)))

  -- ---- what is owned

  -- a taking that stands owns its unit
  pub taking_owns : (taking : ℕ) (st : Stands y taking) → Owns (width_of s) after (page_of c st.object st.page) (slice_index units taking)
  taking_owns taking st = (
    crc32c (held taking),
    (new_pages st.object st.named st.page (place_put units held taking)).0
        (ap (λ x. finite.get (or_empty (option_map (laid units held) x)).pages st.page) st.there ∙ laid_put units held st.draft st.page taking st.put),
  )

  -- a unit owned after is of a taking, or was owned
  pub owned_before : (v : ℕ) → IsOwned (width_of s) after v → ((taking : ℕ) × Stands y taking × (v ≡ slice_index units taking)) ⊎ IsOwned (width_of s) rows v
  owned_before v owned = by (owners owned.0 v owned.1)
    where
      by : OwnsBy owned.0 v → ((taking : ℕ) × Stands y taking × (v ≡ slice_index units taking)) ⊎ IsOwned (width_of s) rows v
      by (takes o page taking d name there put is v_is) =
          inl (taking, record { object = o; named = name; draft = d; there = there; page = page; put = put }, v_is)
      by (keeps o page csum d name there none kept is was) = inr (owned.0, was)
      by (elsewhere other was) = inr (owned.0, was)

  kept_or_none : (x : Option Place) → ((place : Place) × (x ≡ Some place)) ⊎ (x ≡ None)
  kept_or_none None = inr refl
  kept_or_none (Some p) = inl (p, refl)

  -- its page left the unit, or all pages left its slot
  abbrev pub IsLeft : ℕ → Type 0
  IsLeft v = Leaves layouts y v ⊎ IsFreed (width_of s) rows y.unshared v

  -- a page stands on its unit still, or has left it
  page_stays : (u : List ℕ) (page v csum : ℕ) → IsPageAt (width_of s) rows c u page (own v csum) → IsOwned (width_of s) after v ⊎ Leaves layouts y v
  page_stays u page v csum at =
      let name = name_of c u page (own v csum) rows at in
      let stood = (old_pages u name page (own v csum)).1 at in
      elim (kept_or_none (finite.get (or_new (y.layout u)).kept page)) [
        | inr none ↦ inr (record { object = u; named = name; page = page; csum = csum; stood = stood; left = none })
        | inl there ↦
            let same : Some there.0 ≡ Some (own v csum) = sym (kept_was u page there.0 name there.1) ∙ stood in
            inl (page_of c u page, (csum, still_page s rows after c layouts units held y a u page (own v csum) name (there.1 ∙ same)))
      ]
    where
      kept_was : (u : List ℕ) (page : ℕ) (place : Place) → IsName u → finite.get (or_new (y.layout u)).kept page ≡ Some place
          → finite.get (or_empty (layouts u)).pages page ≡ Some place
      kept_was u page place name is = by (y.layout u) refl is
        where
          by : (x : Option Draft) → y.layout u ≡ x → finite.get (or_new x).kept page ≡ Some place → finite.get (or_empty (layouts u)).pages page ≡ Some place
          by None p kept = absurd (let t = sym (finite.get-empty nat_cmp page) ∙ kept in cc)
          by (Some d) p kept = (object_reached s rows after c layouts units held y a u d name p).kept page place kept

  -- a slot keeps a count, or all its pages have left it
  slot_stays : (sbid index v : ℕ) → Owns (width_of s) rows (slot_of sbid index) v → IsOwned (width_of s) after v ⊎ IsFreed (width_of s) rows y.unshared v
  slot_stays sbid index v (x, (has, some)) = elim (cases_lt (times_in (indexes_of sbid y.unshared) index) x.count) [
    | inl lt ↦
        let low = has.has_blob.fits.number in
        let still = slot_kept s rows after a.good sbid low (indexes_of sbid y.unshared) (a.gets.blobs sbid low) index v x has lt in
        inl (slot_of sbid index, (_, (still, omega (arith, lt))))
    | inr ge ↦ inr (record { sbid = sbid; index = index; is = x; has_slot = has; counted = some; all_leave = ge })
  ]

  -- one owned before is owned still, or is left
  pub owned_after : (v : ℕ) → IsOwned (width_of s) rows v → IsOwned (width_of s) after v ⊎ IsLeft v
  owned_after v owned = by owned.0 owned.1
    where
      by : (owner : Owner) → Owns (width_of s) rows owner v → IsOwned (width_of s) after v ⊎ IsLeft v
      by (page_of d u page) owns = elim (equal_or_not d c) [
        | inr other ↦ inl (
          page_of d u page,
          (
            owns.0,
            (other_page s rows after c layouts units held y a d
                (coll_of d u page (own v owns.0) rows owns.1) other u page (own v owns.0)).1 owns.1,
          ),
        )
        | inl e ↦ elim (page_stays u page v owns.0 (subst (λ z. IsPageAt (width_of s) rows z u page (own v owns.0)) e owns.1)) [
          | inl still ↦ inl still
          | inr left ↦ inr (inl left)
        ]
      ]
      by (slot_of sbid index) owns = elim (slot_stays sbid index v owns) [ inl still ↦ inl still | inr freed ↦ inr (inr freed) ]

  -- a unit that is left was owned, by a page of the collection or by a slot
  page_was : (v : ℕ) (l : Leaves layouts y v) → Owns (width_of s) rows (page_of c l.object l.page) v
  page_was v l = (l.csum, (old_pages l.object l.named l.page (own v l.csum)).0 l.stood)

  slot_had : (v : ℕ) (f : IsFreed (width_of s) rows y.unshared v) → Owns (width_of s) rows (slot_of f.sbid f.index) v
  slot_had v f = (f.is, (f.has_slot, f.counted))

  pub left_was : (v : ℕ) → IsLeft v → IsOwned (width_of s) rows v
  left_was v (inl l) = (page_of c l.object l.page, page_was v l)
  left_was v (inr f) = (slot_of f.sbid f.index, slot_had v f)

  -- ---- one owner

  object_of_owner : (o u : List ℕ) (p q : ℕ) → page_of c o p ≡ page_of c u q → o ≡ u
  object_of_owner o u p q e = cc

  page_of_owner : (o u : List ℕ) (p q : ℕ) → page_of c o p ≡ page_of c u q → p ≡ q
  page_of_owner o u p q e = cc

  module _ (v : ℕ) (sole : HasSoleOwner (width_of s) rows v) where
    stands_of : (o : List ℕ) (page taking : ℕ) (d : Draft) → IsName o → y.layout o ≡ Some d → finite.get d.puts page ≡ Some taking → Stands y taking
    stands_of o page taking d name there put = record { object = o; named = name; draft = d; there = there; page = page; put = put }

    -- a unit of a taking was owned by nobody
    unowned : (o : List ℕ) (page taking : ℕ) (d : Draft) → IsName o → y.layout o ≡ Some d → finite.get d.puts page ≡ Some taking
        → v ≡ slice_index units taking → (owner : Owner) → Owns (width_of s) rows owner v → ⊥
    unowned o page taking d name there put is owner owns =
        free taking (stands_of o page taking d name there put) (owner, subst (Owns (width_of s) rows owner) is owns)

    pub sole_after : HasSoleOwner (width_of s) after v
    sole_after p q owns too = by (owners p v owns) (owners q v too)
      where
        by : OwnsBy p v → OwnsBy q v → p ≡ q
        by (takes o page taking d name there put is v_is) (takes u other t e named there_too put_too is_too v_too) =
            let same : taking ≡ t = apart taking t (stands_of o page taking d name there put) (stands_of u other t e named there_too put_too)
            (sym v_is ∙ v_too) in
            let one = a.reached.once o u d e page other taking name named there there_too put (put_too ∙ ap Some (sym same)) in
            is ∙ (λ i. page_of c (one.0 i) (one.1 i)) ∙ sym is_too
        by (takes o page taking d name there put is v_is) (keeps u other csum e named there_too none kept is_too was) =
            absurd (unowned o page taking d name there put v_is q was)
        by (takes o page taking d name there put is v_is) (elsewhere other_owner was) = absurd (unowned o page taking d name there put v_is q was)
        by (keeps u other csum e named there_too none kept is_too was) (takes o page taking d name there put is v_is) =
            absurd (unowned o page taking d name there put v_is p was)
        by (elsewhere other_owner was) (takes o page taking d name there put is v_is) = absurd (unowned o page taking d name there put v_is p was)
        by (keeps u other csum e named there_too none kept is_too was) (keeps o page sum d name there hole stood is was_too) = sole p q was was_too
        by (keeps u other csum e named there_too none kept is_too was) (elsewhere other_owner was_too) = sole p q was was_too
        by (elsewhere other_owner was_too) (keeps u other csum e named there_too none kept is_too was) = sole p q was_too was
        by (elsewhere other_owner was_too) (elsewhere another was) = sole p q was_too was

    page_gone : (l : Leaves layouts y v) → IsOwned (width_of s) after v → ⊥
    page_gone l owned = by (owners owned.0 v owned.1)
      where
        was : Owns (width_of s) rows (page_of c l.object l.page) v
        was = page_was v l

        by : OwnsBy owned.0 v → ⊥
        by (takes o page taking d name there put is v_is) = unowned o page taking d name there put v_is (page_of c l.object l.page) was
        by (elsewhere other before) = other l.object l.page (sole owned.0 (page_of c l.object l.page) before was)
        by (keeps o page csum d name there none kept is before) =
            let one : page_of c o page ≡ page_of c l.object l.page = sym is ∙ sole owned.0 (page_of c l.object l.page) before was in
            let left : finite.get (or_new (y.layout o)).kept page ≡ None =
            ap (λ z. finite.get (or_new (y.layout z)).kept page) (object_of_owner o l.object page l.page one)
            ∙ ap (finite.get (or_new (y.layout l.object)).kept) (page_of_owner o l.object page l.page one) ∙ l.left in
            let t = sym (ap (λ z. finite.get (or_new z).kept page) there ∙ kept) ∙ left in cc

    -- a slot that all pages left has no count then
    no_count : (f : IsFreed (width_of s) rows y.unshared v) → Owns (width_of s) after (slot_of f.sbid f.index) v → ⊥
    no_count f (x, (has, some)) =
        let was = slot_before f.sbid f.index v x has in
        let same = one_slot (width_of s) rows f.sbid f.index v v was.was f.is was.has_slot f.has_slot in
        omega (arith, some, was.count, ap (λ z. z.count) same, f.all_leave)

    slot_gone : (f : IsFreed (width_of s) rows y.unshared v) → IsOwned (width_of s) after v → ⊥
    slot_gone f owned = by (owners owned.0 v owned.1)
      where
        of_rows : Owns (width_of s) rows owned.0 v → ⊥
        of_rows before = no_count f (subst (λ owner. Owns (width_of s) after owner v) (sole owned.0 (slot_of f.sbid f.index) before (slot_had v f)) owned.1)

        by : OwnsBy owned.0 v → ⊥
        by (takes o page taking d name there put is v_is) = unowned o page taking d name there put v_is (slot_of f.sbid f.index) (slot_had v f)
        by (keeps o page csum d name there none kept is before) = of_rows before
        by (elsewhere other before) = of_rows before

    pub gone : IsLeft v → IsOwned (width_of s) after v → ⊥
    gone (inl l) owned = page_gone l owned
    gone (inr f) owned = slot_gone f owned
