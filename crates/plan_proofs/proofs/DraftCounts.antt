-- The counts of slots after the operations of a transaction: each is the number of pages that name the slot then.
use Rattle.std.proofs.Common.{◌≡◌, ◌≢◌, ◌⊎◌, inl, inr, ℕ, zero, suc, ◌-◌, ◌<◌, List, [], ◌∷◌, length, Contains, Option, Some, None, refl, sym, ap, subst, ◌∙◌, arith}
use Rattle.std.specs.Prelude.{slice_index_or}
use Rattle.std.specs.Option.{option_map}
use Rattle.std.specs.Ordering.{nat_cmp}
use Rattle.std.specs.FinMap as finite
use Rattle.meta_rows.specs.Prelude.{Rows}
use Rattle.meta_log.specs.declared.slot.Super.{Super}
use Rattle.meta_log.specs.Prelude.{width_of}
use Rattle.unit_fields.specs.Prelude.{IsName}
use Rattle.row_format.specs.Prelude.{Place, slot}
use Rattle.store_image.specs.Prelude.{IsPageAt, IsNamedBy, PageName, Names, AreNamers, IsCounted, CountsAreExact}
use Rattle.store_image.proofs.Prelude.{equal_or_not}
use Rattle.plan_drafts.specs.declared.draft.Draft.{Draft}
use Rattle.plan_drafts.specs.Prelude.{Held, Layout, or_empty, or_new, CollDraft, laid, indexes_of, times_in}
use Rattle.plan_proofs.proofs.BlobRows.{slot_was}
use Rattle.plan_proofs.proofs.Drafted.{AreThose, Named, NamesStill, AreDrafted}
use Rattle.plan_proofs.proofs.DraftRows.{now, object_reached, map_was, map_now, other_page, stood_on, was_on, named_here, named_was}
use Rattle.plan_proofs.proofs.Laid.{laid_kept}
use Rattle.plan_proofs.proofs.Reached.{IsObjectReached}
use Rattle.plan_proofs.proofs.Slots.{page_names, one_home}

-- one of the pages is of the collection, or all are of others
one_in : (c : List ℕ) (ps : List PageName) → ((p : PageName) × Contains ps p × (p.coll ≡ c)) ⊎ ((p : PageName) → Contains ps p → p.coll ≢ c)
one_in c [] = inr (λ p has. absurd (omega (arith, has.1)))
one_in c (q ∷ ps) = elim (equal_or_not q.coll c) [
  | inl is ↦ inl (q, (0, omega arith, refl), is)
  | inr apart ↦ elim (one_in c ps) [
    | inl later ↦ inl (later.0, (suc later.1.0, omega (arith, later.1.1), later.1.2), later.2)
    | inr none ↦ inr (λ p has. by p has.0 has.1 has.2 apart none)
  ]
]
  where
    by : (p : PageName) (k : ℕ) → k < length (q ∷ ps) → slice_index_or (q ∷ ps) k p ≡ p → q.coll ≢ c
        → ((p : PageName) → Contains ps p → p.coll ≢ c) → p.coll ≢ c
    by p zero lt at apart none = λ is. apart (ap (λ (z : PageName). z.coll) at ∙ is)
    by p (suc k) lt at apart none = none p (k, omega (arith, lt), at)

module _ (s : Super) (rows after : Rows) (c : List ℕ) (layouts : List ℕ → Option Layout) (units : List ℕ) (held : Held) (y : CollDraft)
    (a : AreDrafted s rows after c layouts units held y) where
  -- a page that stands where it stood is there
  pub still_page : (o : List ℕ) (page : ℕ) (place : Place) → IsName o → finite.get (or_new (y.layout o)).kept page ≡ Some place
      → IsPageAt (width_of s) after c o page place
  still_page o page place name is = (map_now s rows after c layouts units held y a o name page place).0 (by (y.layout o) refl is)
    where
      put_none : (d : Draft) → IsObjectReached (layouts o) y.taken d → finite.get d.kept page ≡ Some place → finite.get d.puts page ≡ None
      put_none d r kept = elim (finite.get d.puts page) as (λ z. finite.get d.puts page ≡ z → z ≡ None) [
        | None ↦ λ p. refl
        | Some t ↦ λ p. absurd (r.apart page t place kept p)
      ] refl

      by : (x : Option Draft) → y.layout o ≡ x → finite.get (or_new x).kept page ≡ Some place
          → finite.get (or_empty (now s rows after c layouts units held y a o)).pages page ≡ Some place
      by None p kept = absurd (let t = sym (finite.get-empty nat_cmp page) ∙ kept in cc)
      by (Some d) p kept =
          let none = put_none d (object_reached s rows after c layouts units held y a o d name p) kept in
          ap (λ z. finite.get (or_empty (option_map (laid units held) z)).pages page) p ∙ laid_kept units held d page place none kept

  module _ (sbid index : ℕ) where
    -- a page of the collection that names the slot does so still
    names_still : (o : List ℕ) (page : ℕ) → IsPageAt (width_of s) after c o page (slot sbid index)
        → finite.get (or_new (y.layout o)).kept page ≡ Some (slot sbid index)
    names_still o page at = stood_on s rows after c layouts units held y a o page sbid index
        ((map_now s rows after c layouts units held y a o at.has_shard.fits.object_name page (slot sbid index)).1 at)

    names_before : (o : List ℕ) (page : ℕ) → IsPageAt (width_of s) after c o page (slot sbid index)
        → IsPageAt (width_of s) rows c o page (slot sbid index)
    names_before o page at =
        was_on s rows after c layouts units held y a o at.has_shard.fits.object_name page sbid index (names_still o page at)

    -- where the collection names the blob, the pages that name the slot then are those that do still
    still_namers : IsNamedBy (width_of s) rows c sbid → (still : List PageName) → AreThose (NamesStill c y sbid index) still
        → AreNamers (width_of s) after sbid index still
    still_namers named still are = record { each = λ p. (λ k. there p ((are.each p).0 k), λ at. (are.each p).1 (names p at)); once = are.once }
      where
        there : (p : PageName) → NamesStill c y sbid index p → Names (width_of s) after sbid index p
        there p is = subst (λ d. IsPageAt (width_of s) after d p.object p.page (slot sbid index)) (sym is.coll)
            (still_page p.object p.page (slot sbid index) is.named is.stands)

        names : (p : PageName) → Names (width_of s) after sbid index p → NamesStill c y sbid index p
        names p at =
            let before = named_was s rows after c layouts units held y a p.coll sbid (page_names (width_of s) after p.coll p.object p.page sbid index at) in
            let home = one_home s rows a.good p.coll c sbid before named in
            record {
              coll = home;
              named = at.has_shard.fits.object_name;
              stands = names_still p.object p.page (subst (λ d. IsPageAt (width_of s) after d p.object p.page (slot sbid index)) home at);
            }

    -- where none of its pages is of the collection, they are as they were
    same_namers : (pages : List PageName) → AreNamers (width_of s) rows sbid index pages → ((p : PageName) → Contains pages p → p.coll ≢ c)
        → AreNamers (width_of s) after sbid index pages
    same_namers pages are none = record { each = λ p. (there p, back p); once = are.once }
      where
        there : (p : PageName) → Contains pages p → Names (width_of s) after sbid index p
        there p k =
            let at = (are.each p).0 k in
            (other_page s rows after c layouts units held y a p.coll at.has_shard.fits.coll_name (none p k) p.object p.page (slot sbid index)).1 at

        back : (p : PageName) → Names (width_of s) after sbid index p → Contains pages p
        back p at = elim (equal_or_not p.coll c) [
          | inl is ↦ (are.each p).1 (subst (λ d. IsPageAt (width_of s) rows d p.object p.page (slot sbid index)) (sym is)
              (names_before p.object p.page (subst (λ d. IsPageAt (width_of s) after d p.object p.page (slot sbid index)) is at)))
          | inr apart ↦ (are.each p).1
              ((other_page s rows after c layouts units held y a p.coll at.has_shard.fits.coll_name apart p.object p.page (slot sbid index)).0 at)
        ]

    -- and then no page left it
    none_left : (pages : List PageName) → AreNamers (width_of s) rows sbid index pages → ((p : PageName) → Contains pages p → p.coll ≢ c)
        → times_in (indexes_of sbid y.unshared) index ≡ 0
    none_left pages are none =
        let still = a.balance sbid index [] (record { each = λ p. (λ k. absurd (omega (arith, k.1)), λ is. absurd (of p is)); once = tt }) in
        omega (arith, still.2)
      where
        of : (p : PageName) → Named c layouts sbid index p → ⊥
        of p is = none (record { coll = c; object = p.object; page = p.page })
            ((are.each (record { coll = c; object = p.object; page = p.page })).1
            ((map_was s rows after c layouts units held y a p.object is.named p.page (slot sbid index)).0 is.stood)) refl

    -- the pages that name a slot then are as many as named it before, but for those that left it
    pub counted_after : (count : ℕ) → IsCounted (width_of s) rows sbid index count
        → IsCounted (width_of s) after sbid index (count - times_in (indexes_of sbid y.unshared) index)
    counted_after count was = elim (one_in c was.pages) [
      | inl one ↦
          let at = (was.namers.each one.0).0 one.1 in
          let named = page_names (width_of s) rows c one.0.object one.0.page sbid index
          (subst (λ d. IsPageAt (width_of s) rows d one.0.object one.0.page (slot sbid index)) one.2 at) in
          let still = a.balance sbid index was.pages (named_here s rows after c layouts units held y a sbid index was.pages was.namers named) in
          record { pages = still.0; namers = still_namers named still.0 still.1; count_is = omega (arith, still.2, was.count_is) }
      | inr none ↦ record {
        pages = was.pages;
        namers = same_namers was.pages was.namers none;
        count_is = omega (arith, none_left was.pages was.namers none, was.count_is);
      }
    ]

  pub counts_after : CountsAreExact (width_of s) after
  counts_after sbid index unit x has =
      let low = has.has_blob.fits.number in
      let was = slot_was s rows after a.good sbid low (indexes_of sbid y.unshared) (a.gets.blobs sbid low) index unit x has in
      subst (IsCounted (width_of s) after sbid index) (sym was.count) (counted_after sbid index was.was.count (a.counts sbid index unit was.was was.has_slot))
