-- Writes as they are planned: the pages that they put, what they come to, and that they can be made.
use Rattle.std.proofs.Common.{◌≡◌, inl, inr, ℕ, ◌+◌, ◌-◌, ◌*◌, ◌<◌, ◌≤◌, Bool, true, false, cond, not, List, [], ◌∷◌, length, map, filter, Option, Some, None, is_some, unwrap_or, refl, sym, ap, subst, ◌∙◌, arith}
use Rattle.std.specs.Prelude.{◌&&◌}
use Rattle.std.specs.List.{AllByRecursion}
use Rattle.std.specs.Option.{option_map_or}
use Rattle.std.specs.FinMap as finite
use Rattle.std.proofs.lemmas.Bool.{cases_eq, cases_Bool, eq-eqb}
use Rattle.unit_fields.specs.Prelude.{Ascends}
use Rattle.number_map.specs.NumberMap.{NumberMap}
use Rattle.number_map.proofs.Laws.{same, get_same, get_other}
use Rattle.byte_maps.specs.Units.{zeros}
use Rattle.byte_maps.proofs.Prelude.{length-zeros}
use Rattle.object_model.specs.declared.op.Op.{Op}
use Rattle.object_model.specs.declared.op.Op.TheVariants.{Write, Zero, Truncate}
use Rattle.object_model.specs.Prelude.{object_limit}
use Rattle.row_format.specs.Prelude.{Place}
use Rattle.store_image.specs.Prelude.{PageUnit}
use Rattle.plan_drafts.specs.declared.draft.Draft.{Draft}
use Rattle.plan_drafts.specs.declared.fate.Fate.{Fate}
use Rattle.plan_drafts.specs.declared.fate.Fate.TheVariants.{Stays, Hole, Changed, Takes}
use Rattle.plan_rows.specs.declared.plan.ReadUnit.{ReadUnit}
use Rattle.plan_drafts.specs.Edits.{Edit, end_of, edit_of, covers_whole, gets_bytes, takes_unit, place_read, pages_put, pages_taking, with_takings, drafted, old_bytes_in, Held, old_page, page_after, writes_of, IsInLimits}
use Rattle.page_edits.specs.declared.spans.Span.{Span}
use Rattle.page_edits.specs.declared.writes.OldBytes.TheVariants.{Zeros, Put, Read}
use Rattle.page_edits.specs.declared.writes.PageWrite.{PageWrite}
use Rattle.page_edits.specs.Ranges.{span_by, fate_on}
use Rattle.page_edits.specs.Takings.{IsNumbered, PutsWholePages}
use Rattle.page_edits.specs.Writes.{old_where, taking_by, planned, with_puts, op_at, widest, held_old, old_bytes, made_by, IsWriteBy, CanBeMade}
use Rattle.page_edits.proofs.Lists.{In, all_of, all_at, filter_ascends, of_filter}
use Rattle.page_edits.proofs.PageRanges.{covered}
use Rattle.page_edits.proofs.Fates.{Gets, again, first, put_by}
use Rattle.page_edits.proofs.PagesPut.{not_behind, outside, first_taking}
use Rattle.page_edits.proofs.DraftedPages.{put_ascends, put_test, put_touched, put_stays, uncleared, uncleared_same, puts_then}
use Rattle.page_edits.proofs.EditSizes.{zeros_cut, zeros_cut_is}
use Rattle.page_edits.proofs.OldPages.{after_any}

insert_same : (m : NumberMap ℕ) (key v : ℕ) → finite.get m key ≡ Some v → finite.insert m key v ≡ m
insert_same m key v is = same (finite.insert m key v) m (λ q. elim (cases_eq q key) [
  | inl e ↦ subst (λ k. finite.get (finite.insert m key v) k ≡ finite.get m k) (sym e) (get_same m key v ∙ sym is)
  | inr apart ↦ get_other m key v q apart
])

-- old bytes that were put are those of the page's own unit
read_not_put : (place : Option PageUnit) (taking : ℕ) → option_map_or (λ x. Read x.unit) place Zeros ≡ Put taking → ⊥
read_not_put None taking is = absurd cc
read_not_put (Some on) taking is = absurd cc

own_put : (f : Fate) (n : ℕ) (place : Option PageUnit) (taking : ℕ) → old_where f place ≡ Put taking → taking ≡ taking_by f n
own_put (Changed t true) n place taking is = let e : t ≡ taking = cc in sym e
own_put (Changed t false) n place taking is = absurd cc
own_put Stays n place taking is = absurd (read_not_put place taking is)
own_put Hole n place taking is = absurd (read_not_put place taking is)
own_put (Takes old) n place taking is = absurd (read_not_put place taking is)

module _ (on : Place → PageUnit) (at : ℕ) (s : Span) (d : Draft) where
  abbrev takes : ℕ → Bool
  takes page = takes_unit (fate_on s d page)

  -- they all get new bytes
  abbrev Get : List ℕ → Type 0
  Get pages = (q : ℕ) → In pages q → gets_bytes (fate_on s d q) ≡ true

  -- what becomes of one that does
  abbrev GetsAs : ℕ → Fate → Type 0
  GetsAs page f = Gets (covers_whole s.off s.end page) (finite.get d.puts page) (finite.get d.kept page) f

  gets_as : (page : ℕ) (pages : List ℕ) → Get (page ∷ pages) → GetsAs page (fate_on s d page)
  gets_as page pages get = put_by s.off s.end s.clears d page (get page (inl refl))

  -- the maps have the same of these pages
  abbrev Agrees : NumberMap ℕ → List ℕ → Type 0
  Agrees m pages = (q : ℕ) → In pages q → finite.get m q ≡ finite.get d.puts q

  still_agrees : (m : NumberMap ℕ) (p n : ℕ) (ps : List ℕ) → Ascends (p ∷ ps) → Agrees m (p ∷ ps) → Agrees (finite.insert m p n) ps
  still_agrees m p n ps ascend agree q is = get_other m p n q (λ e. not_behind p ps ascend (subst (In ps) e is)) ∙ agree q (inr is)

  -- the writes put the pages that take units, and leave the others as they were put
  pub puts_are : (pages : List ℕ) (n : ℕ) (m : NumberMap ℕ) → Ascends pages → Agrees m pages → Get pages
      → with_puts m (planned on at s d n pages) ≡ with_takings n (filter takes pages) m
  puts_are [] n m ascend agree get = refl
  puts_are (p ∷ ps) n m ascend agree get = elim (gets_as p ps get) [
    | again t put is ↦ subst Next (sym is) (ap (λ k. with_puts k (planned on at s d n ps)) (insert_same m p t (agree p (inl refl) ∙ put))
        ∙ puts_are ps n m ascend.1 (λ q has. agree q (inr has)) (λ q has. get q (inr has)))
    | first none is ↦ subst Next (sym is)
        (puts_are ps (n + 1) (finite.insert m p n) ascend.1 (still_agrees m p n ps ascend agree) (λ q has. get q (inr has)))
  ]
    where
      Next : Fate → Type 0
      Next f = with_puts (finite.insert m p (taking_by f n)) (planned on at s d (cond (takes_unit f) (n + 1) n) ps)
          ≡ with_takings n (cond (takes_unit f) (p ∷ filter takes ps) (filter takes ps)) m

  not_taking : (p : ℕ) (ps : List ℕ) → Ascends (p ∷ ps) → In (filter takes ps) p → ⊥
  not_taking p ps ascend is = not_behind p ps ascend (of_filter takes ps p is).0

  taking_ascends : (p : ℕ) (ps : List ℕ) → Ascends (p ∷ ps) → Ascends (p ∷ filter takes ps)
  taking_ascends p ps ascend = (
    all_of (λ v. p < v) (filter takes ps) (λ q is. all_at (λ v. p < v) ps q ascend.0 (of_filter takes ps q is).0),
    filter_ascends takes ps ascend.1,
  )

  module _ (op : Op) (read : List ReadUnit) (held : Held) (whole : PutsWholePages held d) (piece : List ℕ) (reach : s.end ≡ s.off + length piece) where
    abbrev new_bytes : ℕ → List ℕ
    new_bytes page = page_after s.off piece page (old_page on read held d page)

    abbrev old_by : Fate → Option Place → List ℕ
    old_by f kept = old_bytes read (held_old held (old_where f (place_read on f kept))) (old_where f (place_read on f kept))

    seen : (kept : Option Place) → old_by (Takes (is_some kept && true)) kept ≡ option_map_or (old_bytes_in on read) kept (zeros 4096)
    seen None = refl
    seen (Some place) = refl

    -- what the page's fate says of old bytes is what the page has, where it gets only some
    part_is : (page : ℕ) (f : Fate) → covers_whole s.off s.end page ≡ false → GetsAs page f → old_by f (finite.get d.kept page) ≡ old_page on read held d page
    part_is page f part (again t put is) =
        ap (λ g. old_by g (finite.get d.kept page)) (is ∙ ap (λ b. Changed t (not b)) part)
        ∙ ap (λ b. cond b (held t) (zeros 4096)) (eq-eqb (length (held t)) 4096 (whole page t put))
        ∙ sym (ap (λ x. option_map_or held x (option_map_or (old_bytes_in on read) (finite.get d.kept page) (zeros 4096))) put)
    part_is page f part (first none is) =
        ap (λ g. old_by g (finite.get d.kept page)) (is ∙ ap (λ b. Takes (is_some (finite.get d.kept page) && not b)) part)
        ∙ seen (finite.get d.kept page)
        ∙ sym (ap (λ x. option_map_or held x (option_map_or (old_bytes_in on read) (finite.get d.kept page) (zeros 4096))) none)

    old_is : (page : ℕ) (f : Fate) → GetsAs page f → page_after s.off piece page (old_by f (finite.get d.kept page)) ≡ new_bytes page
    old_is page f how = elim (cases_Bool (covers_whole s.off s.end page)) [
      | inl covers ↦
          let c = covered s.off s.end page covers in
          after_any s.off piece page (old_by f (finite.get d.kept page)) (old_page on read held d page) c.0 (omega (arith, c.1, reach))
      | inr part ↦ ap (page_after s.off piece page) (part_is page f part how)
    ]

    -- and make of them what the edit makes
    pub made_are : (pages : List ℕ) (n : ℕ) (m : NumberMap ℕ) → Ascends pages → Agrees m pages → Get pages
        → ((page : ℕ) → In pages page → ((widest op).off ≡ s.off) × ((widest op).piece ≡ piece))
        → map (made_by op read held) (planned on at s d n pages)
        ≡ map (λ page. (unwrap_or (finite.get (with_takings n (filter takes pages) m) page) 0, new_bytes page)) pages
    made_are [] n m ascend agree get lays = refl
    made_are (p ∷ ps) n m ascend agree get lays =
        let l = lays p (inl refl) in
        let f : Fate = fate_on s d p in
        let how = gets_as p ps get in
        let old : List ℕ = old_by (fate_on s d p) (finite.get d.kept p) in
        two (taking_by f n) (unwrap_or (finite.get (then_puts f) p) 0) (page_after (widest op).off (widest op).piece p old)
        (taking_is f how)
        (ap (λ k. page_after k (widest op).piece p old) l.0 ∙ ap (λ b. page_after s.off b p old) l.1 ∙ old_is p (fate_on s d p) how)
        (elim (gets_as p ps get) [
          | again t put is ↦ subst Rest (sym is)
              (made_are ps n m ascend.1 (λ q has. agree q (inr has)) (λ q has. get q (inr has)) (λ q has. lays q (inr has)))
          | first none is ↦ subst Rest (sym is)
              (made_are ps (n + 1) (finite.insert m p n) ascend.1 (still_agrees m p n ps ascend agree) (λ q has. get q (inr has)) (λ q has. lays q (inr has)))
        ])
      where
        then_puts : Fate → NumberMap ℕ
        then_puts f = with_takings n (cond (takes_unit f) (p ∷ filter takes ps) (filter takes ps)) m

        Rest : Fate → Type 0
        Rest f = map (made_by op read held) (planned on at s d (cond (takes_unit f) (n + 1) n) ps)
            ≡ map (λ page. (unwrap_or (finite.get (then_puts f) page) 0, new_bytes page)) ps

        taking_is : (f : Fate) → GetsAs p f → taking_by f n ≡ unwrap_or (finite.get (then_puts f) p) 0
        taking_is f (again t put is) = subst (λ g. taking_by g n ≡ unwrap_or (finite.get (then_puts g) p) 0) (sym is)
            (sym (ap (λ o. unwrap_or o 0) (outside (filter takes ps) n m p (not_taking p ps ascend) ∙ agree p (inl refl) ∙ put)))
        taking_is f (first none is) = subst (λ g. taking_by g n ≡ unwrap_or (finite.get (then_puts g) p) 0) (sym is)
            (sym (ap (λ o. unwrap_or o 0) (first_taking p (filter takes ps) n m (taking_ascends p ps ascend))))

        two : (t u : ℕ) (b : List ℕ) {xs ys : List (ℕ × List ℕ)} → t ≡ u → b ≡ new_bytes p → xs ≡ ys → (t, b) ∷ xs ≡ (u, new_bytes p) ∷ ys
        two t u b {xs} {ys} is are rest = ap (λ v. (v, b) ∷ xs) is ∙ ap (λ v. (u, v) ∷ xs) are ∙ ap (λ l. (u, new_bytes p) ∷ l) rest

  pub all_of_operation : (pages : List ℕ) (n : ℕ) → AllByRecursion (IsWriteBy at) (planned on at s d n pages)
  all_of_operation [] n = tt
  all_of_operation (p ∷ ps) n = (
    record { of = refl; own = own_put (fate_on s d p) n (place_read on (fate_on s d p) (finite.get d.kept p)) },
    all_of_operation ps (cond (takes_unit (fate_on s d p)) (n + 1) n),
  )

  -- each can be made, where its operation is one of these and has bytes for each page
  module _ (ops : List Op) (more : ℕ) (there : at < length ops) (within : IsInLimits (op_at ops at))
      (below : (page taking : ℕ) → finite.get d.puts page ≡ Some taking → taking < more) where
    abbrev Reaches : ℕ → Type 0
    Reaches page = ((widest (op_at ops at)).off < 4096 * page + 4096) × (4096 * page < end_of (widest (op_at ops at)))

    can : (page n : ℕ) (f : Fate) → Reaches page → taking_by f n < more
        → CanBeMade ops more (record { op = at; page = page; taking = taking_by f n; old = old_where f (place_read on f (finite.get d.kept page)) })
    can page n f reach few = record {
      there = there;
      within = within;
      from = reach.0;
      to = reach.1;
      taken = few;
      old = λ taking is. subst (λ t. t < more) (sym (own_put f n (place_read on f (finite.get d.kept page)) taking is)) few;
    }

    pub all_can : (pages : List ℕ) (n : ℕ) → n + length (filter takes pages) ≤ more → Get pages → ((page : ℕ) → In pages page → Reaches page)
        → AllByRecursion (CanBeMade ops more) (planned on at s d n pages)
    all_can [] n few get reaches = tt
    all_can (p ∷ ps) n few get reaches = elim (gets_as p ps get) [
      | again t put is ↦ subst Can (sym is) (λ some. (
        can p n (Changed t (not (covers_whole s.off s.end p))) (reaches p (inl refl)) (below p t put),
        all_can ps n some (λ q has. get q (inr has)) (λ q has. reaches q (inr has)),
      )) few
      | first none is ↦ subst Can (sym is) (λ some. (
        can p n (Takes (is_some (finite.get d.kept p) && not (covers_whole s.off s.end p))) (reaches p (inl refl)) (omega (arith, some)),
        all_can ps (n + 1) (omega (arith, some)) (λ q has. get q (inr has)) (λ q has. reaches q (inr has)),
      )) few
    ]
      where
        Can : Fate → Type 0
        Can f = n + length (cond (takes_unit f) (p ∷ filter takes ps) (filter takes ps)) ≤ more
            → CanBeMade ops more (record { op = at; page = p; taking = taking_by f n; old = old_where f (place_read on f (finite.get d.kept p)) })
            × AllByRecursion (CanBeMade ops more) (planned on at s d (cond (takes_unit f) (n + 1) n) ps)

-- ---- of an operation

-- an operation lays what its edit lays, where that touches any page
pub lays_same : (op : Op) (size : ℕ) (d : Draft) (page : ℕ) → In (pages_put (edit_of op size) d) page
    → ((widest op).off ≡ (edit_of op size).off) × ((widest op).piece ≡ (edit_of op size).piece)
lays_same (Write o off bytes) size d page is = (refl, refl)
lays_same (Zero o off len) size d page is = (refl, refl)
lays_same (Truncate o to) size d page is = (
  refl,
  elim (zeros_cut_is to size) [
    | inl less ↦ elim (zeros_cut_is to object_limit) [
      | inl all ↦ all.1 ∙ sym less.1
      | inr past ↦ absurd (omega (arith, some, past.0, ap (λ (l : List ℕ). length l) less.1, length-zeros (object_limit - to)))
    ]
    | inr stays ↦ absurd (omega (arith, some, ap (λ (l : List ℕ). length l) stays.1))
  ],
)
  where
    some : to < to + length (zeros_cut to size)
    some = (put_touched (edit_of (Truncate o to) size) d page is).some
lays_same op size d page is = (refl, refl)

module _ (on : Place → PageUnit) (at : ℕ) (op : Op) (n : ℕ) (d : Draft) where
  abbrev e : Edit
  e = edit_of op d.size

  abbrev pub plans : List PageWrite
  plans = planned on at (span_by e) d n (pages_put e d)

  agrees : (q : ℕ) → In (pages_put e d) q → finite.get (uncleared e d) q ≡ finite.get d.puts q
  agrees q is = uncleared_same e d q (put_stays e d q is)

  pub planned_puts : with_puts (uncleared e d) plans ≡ (drafted e n d).puts
  planned_puts = puts_are on at (span_by e) d (pages_put e d) n (uncleared e d) (put_ascends e d) agrees (put_test e d) ∙ sym (puts_then e d n)

  pub planned_writes : (read : List ReadUnit) (held : Held) → PutsWholePages held d → map (made_by op read held) plans ≡ writes_of on e read held n d
  planned_writes read held whole =
      made_are on at (span_by e) d op read held whole e.piece refl (pages_put e d) n (uncleared e d) (put_ascends e d) agrees (put_test e d)
      (lays_same op d.size d)
      ∙ ap (λ (m : NumberMap ℕ). map (λ page. (unwrap_or (finite.get m page) 0, page_after e.off e.piece page (old_page on read held d page))) (pages_put e d))
      (sym (puts_then e d n))

  pub planned_can : (ops : List Op) → at < length ops → op_at ops at ≡ op → IsInLimits op → IsNumbered n d
      → AllByRecursion (CanBeMade ops (n + length (pages_taking e d))) plans
  planned_can ops there is within num = all_can on at (span_by e) d ops (n + length (pages_taking e d)) there (subst IsInLimits (sym is) within)
      (λ page taking put. omega (arith, num.below page taking put))
      (pages_put e d) n (omega arith) (put_test e d)
      (λ page put. subst (λ (o : Op). ((widest o).off < 4096 * page + 4096) × (4096 * page < end_of (widest o))) (sym is) (reaches page put))
    where
      reaches : (page : ℕ) → In (pages_put e d) page → ((widest op).off < 4096 * page + 4096) × (4096 * page < end_of (widest op))
      reaches page put =
          let t = put_touched e d page put in
          let l = lays_same op d.size d page put in
          let long : length (widest op).piece ≡ length e.piece = ap (λ (x : List ℕ). length x) l.1 in
          (omega (arith, t.from, l.0), omega (arith, t.to, l.0, long))
