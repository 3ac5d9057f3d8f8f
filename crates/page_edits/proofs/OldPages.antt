-- The old bytes of pages, as they were read or put, and that pages with new bytes are whole.
use Rattle.std.proofs.Common.{◌≡◌, inl, inr, ℕ, ◌+◌, ◌-◌, ◌*◌, ◌≤◌, true, false, cond, List, [], ◌∷◌, ◌++◌, length, map, flat_map, Option, Some, None, is_some, eqb, refl, sym, ap, subst, ◌∙◌}
use Rattle.std.specs.List.{AllByRecursion}
use Rattle.std.specs.Option.{option_map, option_map_or, option_to_list}
use Rattle.std.specs.FinMap as finite
use Rattle.std.proofs.lemmas.Bool.{cases_Bool, or_from, eqb-true, eqb-false}
use Rattle.byte_maps.specs.Units.{zeros}
use Rattle.byte_maps.proofs.Prelude.{length-zeros}
use Rattle.row_format.specs.Prelude.{Place}
use Rattle.store_image.specs.Prelude.{PageUnit, page_bytes}
use Rattle.plan_drafts.specs.declared.draft.Draft.{Draft}
use Rattle.plan_rows.specs.declared.plan.ReadUnit.{ReadUnit}
use Rattle.plan_drafts.specs.Edits.{Edit, end_of, covers_whole, fate_of, gets_bytes, needs_old, pages_touched, pages_put, place_read, places_read, bytes_read, old_bytes_in, Held, old_page, page_after, HoldBytes}
use Rattle.page_edits.specs.Takings.{PutsWholePages, WereRead}
use Rattle.page_edits.proofs.Lists.{In, in_contains, contains_in, in_filter}
use Rattle.page_edits.proofs.PageRanges.{IsTouched, in_touched, covered}
use Rattle.page_edits.proofs.Patches.{shared_is}
use Rattle.page_edits.proofs.Fates.{reads_old}
use Rattle.page_edits.proofs.DraftedPages.{touched_has}

-- where a piece covers a page the old bytes don't matter
pub after_any : (off : ℕ) (piece : List ℕ) (page : ℕ) (x y : List ℕ) → off ≤ 4096 * page → 4096 * page + 4096 ≤ off + length piece
    → page_after off piece page x ≡ page_after off piece page y
after_any off piece page x y from to =
    sym (shared_is off piece page x (4096 * page - off) refl from to) ∙ shared_is off piece page y (4096 * page - off) refl from to

-- ---- lengths

module _ (on : Place → PageUnit) (read : List ReadUnit) (all : AllByRecursion (λ r. length r.bytes ≡ 4096) read) where
  unit_length : (unit : ℕ) → length (bytes_read read unit) ≡ 4096
  unit_length unit = by read all
    where
      by : (rs : List ReadUnit) → AllByRecursion (λ r. length r.bytes ≡ 4096) rs → length (bytes_read rs unit) ≡ 4096
      by [] all = length-zeros 4096
      by (r ∷ rs) all = elim (eqb r.unit unit) as (λ b. length (cond b r.bytes (bytes_read rs unit)) ≡ 4096) [ true ↦ all.0 | false ↦ by rs all.1 ]

  pub old_length : (held : Held) (d : Draft) (page : ℕ) → PutsWholePages held d → length (old_page on read held d page) ≡ 4096
  old_length held d page whole = by (finite.get d.puts page) (finite.get d.kept page) refl
    where
      by : (x : Option ℕ) (y : Option Place) → finite.get d.puts page ≡ x
          → length (option_map_or held x (option_map_or (old_bytes_in on read) y (zeros 4096))) ≡ 4096
      by (Some taking) y put = whole page taking put
      by None (Some place) none = unit_length (on place).unit
      by None None none = length-zeros 4096

-- ---- what was read is what the pages hold

in_left : {X : Type 0} (xs ys : List X) (x : X) → In xs x → In (xs ++ ys) x
in_left [] ys x is = absurd is
in_left (z ∷ zs) ys x (inl e) = inl e
in_left (z ∷ zs) ys x (inr later) = inr (in_left zs ys x later)

in_right : {X : Type 0} (xs ys : List X) (x : X) → In ys x → In (xs ++ ys) x
in_right [] ys x is = is
in_right (z ∷ zs) ys x is = inr (in_right zs ys x is)

in_flat_map : {X Y : Type 0} (f : X → List Y) (xs : List X) (x : X) (y : Y) → In xs x → In (f x) y → In (flat_map f xs) y
in_flat_map f [] x y is has = absurd is
in_flat_map f (z ∷ zs) x y (inl e) has = in_left (f z) (flat_map f zs) y (subst (λ w. In (f w) y) (sym e) has)
in_flat_map f (z ∷ zs) x y (inr later) has = in_right (f z) (flat_map f zs) y (in_flat_map f zs x y later has)

in_map : {X Y : Type 0} (f : X → Y) (xs : List X) (x : X) → In xs x → In (map f xs) (f x)
in_map f [] x is = absurd is
in_map f (z ∷ zs) x (inl e) = inl (ap f e)
in_map f (z ∷ zs) x (inr later) = inr (in_map f zs x later)

module _ (on : Place → PageUnit) (at : ℕ → List ℕ) where
  bytes_seen : (read : List ReadUnit) → AllByRecursion (λ r. at r.unit ≡ r.bytes) read → (unit : ℕ) → In (map (λ r. r.unit) read) unit
      → bytes_read read unit ≡ at unit
  bytes_seen [] all unit has = absurd has
  bytes_seen (r ∷ rs) all unit has = elim (cases_Bool (eqb r.unit unit)) [
    | inl same ↦ ap (λ b. cond b r.bytes (bytes_read rs unit)) same ∙ sym all.0 ∙ ap at (eqb-true r.unit unit same)
    | inr apart ↦ ap (λ b. cond b r.bytes (bytes_read rs unit)) apart ∙ elim has [
      | inl e ↦ absurd (eqb-false r.unit unit apart e)
      | inr later ↦ bytes_seen rs all.1 unit later
    ]
  ]

  module _ (e : Edit) (read : List ReadUnit) (held : Held) (d : Draft) (old : List ℕ) (hold : HoldBytes on at held d old)
      (reads : WereRead at (places_read on e d) read) where
    unit_was_read : (page : ℕ) (place : Place) → finite.get d.kept page ≡ Some place → In (pages_put e d) page → needs_old (fate_of e d page) ≡ true
        → In (map (λ r. r.unit) read) (on place).unit
    unit_was_read page place stands put needs = contains_in (map (λ r. r.unit) read) (on place).unit (reads.among (on place).unit
        (in_contains (map (λ x. x.unit) (places_read on e d)) (on place).unit
        (in_map (λ x. x.unit) (places_read on e d) (on place)
        (in_flat_map (λ q. option_to_list (place_read on (fate_of e d q) (finite.get d.kept q))) (pages_put e d) page (on place) put
        (subst (λ x. In (option_to_list x) (on place))
        (sym (ap (λ b. cond b (option_map on (finite.get d.kept page)) None) needs ∙ ap (option_map on) stands)) (inl refl))))))

    -- A page that is touched gets what the edit makes of its old bytes: they were put or read, or the page was a hole, or they don't matter.
    pub bytes_are_new : (page : ℕ) → IsTouched e.off (end_of e) page
        → page_after e.off e.piece page (old_page on read held d page) ≡ page_after e.off e.piece page (page_bytes old page)
    bytes_are_new page t = by (finite.get d.puts page) (finite.get d.kept page) refl refl
      where
        by : (x : Option ℕ) (y : Option Place) → finite.get d.puts page ≡ x → finite.get d.kept page ≡ y
            → page_after e.off e.piece page (option_map_or held x (option_map_or (old_bytes_in on read) y (zeros 4096))) ≡ page_after e.off e.piece page (page_bytes old page)
        by (Some taking) y put stands = ap (page_after e.off e.piece page) (hold.put page taking put)
        by None None none hole = ap (page_after e.off e.piece page)
            (sym (hold.holes page (or_from (finite.contains_key d.kept page) (finite.contains_key d.puts page) (ap is_some hole) (ap is_some none))))
        by None (Some place) none stands = elim (cases_Bool (covers_whole e.off (end_of e) page)) [
          | inr part ↦ ap (page_after e.off e.piece page) (
              let fate = reads_old e.off (end_of e) e.clears d page (touched_has e.off (end_of e) page t) place part none stands in
              bytes_seen read reads.seen (on place).unit (unit_was_read page place stands
              (in_filter (λ q. gets_bytes (fate_of e d q)) (pages_touched e.off (end_of e)) page (in_touched e.off (end_of e) page t)
              (ap gets_bytes fate)) (ap needs_old fate))
              ∙ (hold.kept page place stands none).0)
          | inl whole ↦ let c = covered e.off (end_of e) page whole in
              after_any e.off e.piece page (old_bytes_in on read place) (page_bytes old page) c.0 c.1
        ]
