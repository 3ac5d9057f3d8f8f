-- An object's pages hold its bytes after an edit, where they held its bytes before.
use Rattle.std.proofs.Common.{◌≡◌, inl, inr, ℕ, ◌<◌, true, false, List, length, get_or, Some, None, is_some, unwrap_or, sym, ap, subst, ◌∙◌, arith}
use Rattle.std.specs.List.{AllByRecursion}
use Rattle.std.specs.FinMap as finite
use Rattle.std.proofs.lemmas.Bool.{cases_Bool, and_parts, or_from, or_right, or_parts, both_ways, false_from_ne_true}
use Rattle.byte_maps.specs.Units.{zeros}
use Rattle.crc32c_csum.specs.Prelude.{crc32c}
use Rattle.row_format.specs.Prelude.{Place}
use Rattle.store_image.specs.Prelude.{PageUnit, page_bytes}
use Rattle.plan_drafts.specs.declared.draft.Draft.{Draft}
use Rattle.plan_rows.specs.declared.plan.ReadUnit.{ReadUnit}
use Rattle.plan_drafts.specs.Edits.{Edit, end_of, covers_whole, is_there, is_cleared, is_touched, pages_put, places_read, page_after, old_page, taking_of, drafted, Held, writes_of, with_writes, HoldBytes}
use Rattle.page_edits.specs.Takings.{IsNumbered, PutsWholePages, WereRead}
use Rattle.page_edits.proofs.Lists.{In}
use Rattle.page_edits.proofs.PageRanges.{IsApart, touched_or_apart, covered}
use Rattle.page_edits.proofs.PagesPut.{in_or_not}
use Rattle.page_edits.proofs.DraftedPages.{put_ascends, put_touched, not_put, taking_put, cleared_touched, stays_apart, touched_has, apart_has_none, kept_same, kept_apart, kept_was, puts_same, puts_cleared, put_has, was_put, numbered}
use Rattle.page_edits.proofs.PageBytes.{page_length, after_length, after_apart, after_zeros}
use Rattle.page_edits.proofs.WrittenPages.{unwritten, written_at, all_written, some_written}
use Rattle.page_edits.proofs.OldPages.{old_length, bytes_are_new}

module _ (on : Place → PageUnit) (e : Edit) (read : List ReadUnit) (held : Held) (n : ℕ) (d : Draft) where
  abbrev taking_then : ℕ → ℕ
  taking_then = taking_of (drafted e n d)

  abbrev bytes_then : ℕ → List ℕ
  bytes_then page = page_after e.off e.piece page (old_page on read held d page)

  abbrev held_then : Held
  held_then = with_writes (writes_of on e read held n d) held

  -- the taking of a page that gets new bytes
  pub taking_is : (page : ℕ) → In (pages_put e d) page → finite.get (drafted e n d).puts page ≡ Some (taking_of (drafted e n d) page)
  taking_is page put = let t = put_has e d n page put in t.1 ∙ ap Some (sym (ap (λ x. unwrap_or x 0) t.1))

  pub taking_from : (page taking : ℕ) → finite.get (drafted e n d).puts page ≡ Some taking → taking_of (drafted e n d) page ≡ taking
  taking_from page taking is = ap (λ x. unwrap_or x 0) is

  -- a page that was put and doesn't get new bytes was put before, and isn't touched
  pub put_before : (page taking : ℕ) → (In (pages_put e d) page → ⊥) → finite.get (drafted e n d).puts page ≡ Some taking
      → (finite.get d.puts page ≡ Some taking) × IsApart e.off (end_of e) page
  put_before page taking none is = elim (cases_Bool (is_cleared e page)) [
    | inl gone ↦ absurd (let two : None ≡ Some taking = sym (puts_cleared e d n page gone) ∙ is in cc)
    | inr kept ↦
        let was : finite.get d.puts page ≡ Some taking = sym (puts_same e d n page (λ has. none (taking_put e d page has)) kept) ∙ is in
        (was, stays_apart e d page (or_right (finite.contains_key d.kept page) (finite.contains_key d.puts page) (ap is_some was)) none kept)
  ]

  pub whole_then : AllByRecursion (λ r. length r.bytes ≡ 4096) read → PutsWholePages held d → PutsWholePages held_then (drafted e n d)
  whole_then reads whole page taking is = elim (in_or_not (pages_put e d) page) [
    | inl put ↦ some_written taking_then bytes_then (λ bytes. length bytes ≡ 4096) (pages_put e d) held page taking put (taking_from page taking is) (λ q has. each q)
    | inr none ↦ all_written taking_then bytes_then (λ bytes. length bytes ≡ 4096) (pages_put e d) held taking
        (whole page taking (put_before page taking none is).0) (λ q has. each q)
  ]
    where
      each : (q : ℕ) → length (bytes_then q) ≡ 4096
      each q = after_length e.off e.piece q (old_page on read held d q) (old_length on read reads held d q whole)

  pub others_then : (taking : ℕ) → taking < n → ((page : ℕ) → ¬ (finite.get d.puts page ≡ Some taking)) → held_then taking ≡ held taking
  others_then taking less none = unwritten taking_then bytes_then (pages_put e d) held taking
      (λ page put same. elim (was_put e d n page taking (taking_is page put ∙ ap Some same)) [
        | inl was ↦ none page was
        | inr new ↦ omega (arith, less, new.0)
      ])

  module _ (num : IsNumbered n d) where
    -- no two pages that get new bytes have one taking
    pub only : (page other : ℕ) → In (pages_put e d) page → In (pages_put e d) other → taking_then other ≡ taking_then page → other ≡ page
    only page other put has same = (numbered e d n num).alone other page (taking_then page) (taking_is other has ∙ ap Some same) (taking_is page put)

    module _ (at : ℕ → List ℕ) (old new : List ℕ) (hold : HoldBytes on at held d old) (reads : WereRead at (places_read on e d) read)
        (after : (page : ℕ) → page_bytes new page ≡ page_after e.off e.piece page (page_bytes old page))
        (clear : e.clears ≡ true → (i : ℕ) → get_or e.piece i 0 ≡ 0) where
      same_apart : (page : ℕ) → IsApart e.off (end_of e) page → page_bytes new page ≡ page_bytes old page
      same_apart page apart = after page ∙ after_apart e.off e.piece page (page_bytes old page) (page_length old page) apart

      apart_of : (page : ℕ) → is_touched e page ≡ false → IsApart e.off (end_of e) page
      apart_of page none = elim (touched_or_apart e.off (end_of e) page) [
        | inr apart ↦ apart
        | inl t ↦ absurd (both_ways (is_touched e page) none (touched_has e.off (end_of e) page t))
      ]

      kept_hold : (page : ℕ) (place : Place) → finite.get (drafted e n d).kept page ≡ Some place → finite.get (drafted e n d).puts page ≡ None
          → (at (on place).unit ≡ page_bytes new page) × (crc32c (page_bytes new page) ≡ (on place).csum)
      kept_hold page place stands none =
          let untouched = kept_apart e d n page place stands in
          let bare : finite.get d.puts page ≡ None = sym (puts_same e d n page
          (λ has. both_ways (is_touched e page) untouched (touched_has e.off (end_of e) page (put_touched e d page (taking_put e d page has))))
          (false_from_ne_true (is_cleared e page) (λ gone. both_ways (is_touched e page) untouched (touched_has e.off (end_of e) page (cleared_touched e d page gone)))))
          ∙ none in
          let was = hold.kept page place (kept_was e d n page place stands) bare in
          let same = same_apart page (apart_of page untouched) in
          (was.0 ∙ sym same, ap crc32c same ∙ was.1)

      put_hold : (page taking : ℕ) → finite.get (drafted e n d).puts page ≡ Some taking → held_then taking ≡ page_bytes new page
      put_hold page taking is = elim (in_or_not (pages_put e d) page) [
        | inl put ↦
            ap held_then (sym (taking_from page taking is))
            ∙ written_at taking_then bytes_then (pages_put e d) held page (put_ascends e d) put (λ other has same. only page other put has same)
            ∙ bytes_are_new on at e read held d old hold reads page (put_touched e d page put)
            ∙ sym (after page)
        | inr none ↦
            let before = put_before page taking none is in
            unwritten taking_then bytes_then (pages_put e d) held taking
            (λ q has same. none (subst (In (pages_put e d)) ((numbered e d n num).alone q page taking (taking_is q has ∙ ap Some same) is) has))
            ∙ hold.put page taking before.0
            ∙ sym (same_apart page before.1)
      ]

      -- a page that isn't touched is as much a hole as before
      still : (page : ℕ) → is_there (drafted e n d) page ≡ false → (In (pages_put e d) page → ⊥) → is_cleared e page ≡ false
          → IsApart e.off (end_of e) page → is_there d page ≡ false
      still page hole none kept apart =
          let both = or_parts (finite.contains_key (drafted e n d).kept page) (finite.contains_key (drafted e n d).puts page) hole in
          or_from (finite.contains_key d.kept page) (finite.contains_key d.puts page)
          (sym (ap is_some (kept_same e d n page (apart_has_none e.off (end_of e) page apart))) ∙ both.0)
          (sym (ap is_some (puts_same e d n page (λ has. none (taking_put e d page has)) kept)) ∙ both.1)

      holes_hold : (page : ℕ) → is_there (drafted e n d) page ≡ false → page_bytes new page ≡ zeros 4096
      holes_hold page hole = elim (in_or_not (pages_put e d) page) [
        | inl put ↦ absurd (both_ways (is_there (drafted e n d) page) hole
            (or_right (finite.contains_key (drafted e n d).kept page) (finite.contains_key (drafted e n d).puts page) (ap is_some (taking_is page put))))
        | inr none ↦ elim (cases_Bool (is_cleared e page)) [
          | inl gone ↦
              let both = and_parts e.clears (covers_whole e.off (end_of e) page) gone in
              after page ∙ after_zeros e.off e.piece page (page_bytes old page) (page_length old page) (clear both.0) (inr (covered e.off (end_of e) page both.1))
          | inr kept ↦ elim (cases_Bool (is_there d page)) [
            | inr bare ↦ elim (touched_or_apart e.off (end_of e) page) [
              | inl t ↦ after page ∙ after_zeros e.off e.piece page (page_bytes old page) (page_length old page)
                  (clear (not_put e d page none t).0) (inl (hold.holes page bare))
              | inr apart ↦ same_apart page apart ∙ hold.holes page bare
            ]
            | inl stood ↦ absurd (both_ways (is_there d page) (still page hole none kept (stays_apart e d page stood none kept)) stood)
          ]
        ]
      ]

      pub bytes_hold : HoldBytes on at held_then (drafted e n d) new
      bytes_hold = record { kept = kept_hold; put = put_hold; holes = holes_hold }
