-- The pages of a draft after an edit: those that get new bytes, those that stand where they stood, and the others.
use Rattle.std.proofs.Common.{◌≡◌, ◌⊎◌, inl, inr, ℕ, ◌+◌, ◌*◌, ◌/◌, ◌<◌, ◌≤◌, Bool, true, false, cond, not, length, Option, Some, None, is_some, refl, sym, ap, subst, ◌∙◌, arith}
use Rattle.std.specs.Prelude.{◌&&◌, nat_lt}
use Rattle.std.specs.FinMap as finite
use Rattle.std.specs.FinMap.{nat_cmp-IsAntisymmetric}
use Rattle.std.proofs.lemmas.Bool.{cases_Bool, and_parts, and_from, and_right, or_cases, or_left, or_right, both_ways, not-true, not_from_false, false_from_ne_true, lt-ltb, le-ltb}
use Rattle.std.proofs.lemmas.Bool.Decides.{nat_tests}
use Rattle.unit_fields.specs.Prelude.{Ascends}
use Rattle.number_map.specs.NumberMap.{NumberMap, is_key_in}
use Rattle.number_map.proofs.Laws.{same}
use Rattle.row_format.specs.Prelude.{Place}
use Rattle.plan_drafts.specs.declared.draft.Draft.{Draft}
use Rattle.plan_drafts.specs.Edits.{Edit, end_of, covers_whole, is_there, is_cleared, is_touched, fate_of, is_left, is_hole, gets_bytes, takes_unit, pages_touched, pages_put, pages_taking, with_takings, drafted}
use Rattle.page_edits.specs.Takings.{IsNumbered, IsKeptOrPut}
use Rattle.page_edits.proofs.Lists.{In, filter_ascends, in_filter, of_filter}
use Rattle.page_edits.proofs.PageRanges.{IsTouched, IsApart, touched_or_apart, in_touched, of_touched, touched_ascends, covered_touched}
use Rattle.page_edits.proofs.Fates.{left_is, hole_is, not_cleared, takes_is, gets_not, gets_part}
use Rattle.page_edits.proofs.PagesPut.{in_or_not, HasTaking, outside, inside, alone}

-- ---- maps without some keys

module _ {X : Type 0} (m : NumberMap X) (test : ℕ → Bool) (key : ℕ) where
  pub retained_at : finite.get (finite.retain_keys m test) key ≡ cond (test key) (finite.get m key) None
  retained_at = finite.get-retain_keys m test key (λ other tied. ap test (sym (nat_cmp-IsAntisymmetric key other tied)))

  pub retained_same : test key ≡ true → finite.get (finite.retain_keys m test) key ≡ finite.get m key
  retained_same is = retained_at ∙ ap (λ b. cond b (finite.get m key) None) is

  pub retained_none : test key ≡ false → finite.get (finite.retain_keys m test) key ≡ None
  retained_none is = retained_at ∙ ap (λ b. cond b (finite.get m key) None) is

pub some_value : {X : Type 0} (x : Option X) → is_some x ≡ true → (v : X) × (x ≡ Some v)
some_value (Some v) is = (v, refl)
some_value None is = absurd cc

pub no_value : {X : Type 0} (x : Option X) → is_some x ≡ false → x ≡ None
no_value (Some v) is = absurd cc
no_value None is = refl

neither : {X : Type 0} (b c : Bool) (x : Option X) → cond b x x ≡ cond c x x
neither true true x = refl
neither true false x = refl
neither false true x = refl
neither false false x = refl

-- ---- ranges of pages

inside_is : (from end page : ℕ) → from ≤ page → page < end → is_key_in from end page ≡ true
inside_is from end page le lt = grind (arith, nat_tests)

low_is : (from end page : ℕ) → page < from → is_key_in from end page ≡ false
low_is from end page lt = grind (arith, nat_tests)

high_is : (from end page : ℕ) → end ≤ page → is_key_in from end page ≡ false
high_is from end page le = grind (arith, nat_tests)

module _ (off end page : ℕ) where
  abbrev has_bytes : Bool
  has_bytes = nat_lt off end && is_key_in (off / 4096) ((end + 4095) / 4096) page

  pub touched_has : IsTouched off end page → has_bytes ≡ true
  touched_has t =
      let from : off < 4096 * page + 4096 = t.from in
      let to : 4096 * page < end = t.to in
      and_from (nat_lt off end) (is_key_in (off / 4096) ((end + 4095) / 4096) page) (lt-ltb off end t.some)
      (inside_is (off / 4096) ((end + 4095) / 4096) page (omega (arith, from)) (omega (arith, to)))

  pub apart_has_none : IsApart off end page → has_bytes ≡ false
  apart_has_none apart = elim apart [
    | inl none ↦ ap (λ b. b && is_key_in (off / 4096) ((end + 4095) / 4096) page) (le-ltb off end none)
    | inr apart ↦ and_right (nat_lt off end) (is_key_in (off / 4096) ((end + 4095) / 4096) page) (elim apart [
      | inl behind ↦ low_is (off / 4096) ((end + 4095) / 4096) page (omega (arith, behind))
      | inr before ↦ high_is (off / 4096) ((end + 4095) / 4096) page (omega (arith, before))
    ])
  ]

-- ---- an edit

module _ (e : Edit) (d : Draft) where
  abbrev gets : ℕ → Bool
  gets page = gets_bytes (fate_of e d page)

  pub put_ascends : Ascends (pages_put e d)
  put_ascends = filter_ascends gets (pages_touched e.off (end_of e)) (touched_ascends e.off (end_of e))

  abbrev takes_one : ℕ → Bool
  takes_one page = takes_unit (fate_of e d page)

  pub taking_ascends : Ascends (pages_taking e d)
  taking_ascends = filter_ascends takes_one (pages_put e d) put_ascends

  pub taking_put : (page : ℕ) → In (pages_taking e d) page → In (pages_put e d) page
  taking_put page is = (of_filter takes_one (pages_put e d) page is).0

  pub put_touched : (page : ℕ) → In (pages_put e d) page → IsTouched e.off (end_of e) page
  put_touched page is = of_touched e.off (end_of e) page (of_filter gets (pages_touched e.off (end_of e)) page is).0

  pub put_test : (page : ℕ) → In (pages_put e d) page → gets page ≡ true
  put_test page is = (of_filter gets (pages_touched e.off (end_of e)) page is).1

  -- one that gets new bytes takes a unit where it wasn't put before
  pub takes_unput : (page : ℕ) → In (pages_put e d) page → takes_one page ≡ not (finite.contains_key d.puts page)
  takes_unput page is = takes_is e.off (end_of e) e.clears d page (put_test page is)

  -- where zeros clear pages, one that gets new bytes stands somewhere, and isn't covered wholly
  pub stood_in_part : (page : ℕ) → IsTouched e.off (end_of e) page → e.clears ≡ true → gets page ≡ true
      → (is_there d page ≡ true) × (covers_whole e.off (end_of e) page ≡ false)
  stood_in_part page t clears is =
      let both = and_parts (is_there d page) (not (covers_whole e.off (end_of e) page))
      (sym (gets_part e.off (end_of e) e.clears d page (touched_has e.off (end_of e) page t) clears) ∙ is) in
      (both.0, not-true (covers_whole e.off (end_of e) page) both.1)

  pub not_put : (page : ℕ) → (In (pages_put e d) page → ⊥) → IsTouched e.off (end_of e) page
      → (e.clears ≡ true) × ((is_there d page ≡ false) ⊎ (covers_whole e.off (end_of e) page ≡ true))
  not_put page none t = gets_not e.off (end_of e) e.clears d page (touched_has e.off (end_of e) page t) (false_from_ne_true (gets page)
      (λ is. none (in_filter gets (pages_touched e.off (end_of e)) page (in_touched e.off (end_of e) page t) is)))

  -- a page that gets new bytes isn't cleared
  pub put_stays : (page : ℕ) → In (pages_put e d) page → is_cleared e page ≡ false
  put_stays page is = not_cleared e.off (end_of e) e.clears d page (put_test page is)

  pub cleared_touched : (page : ℕ) → is_cleared e page ≡ true → IsTouched e.off (end_of e) page
  cleared_touched page gone = covered_touched e.off (end_of e) page (and_parts e.clears (covers_whole e.off (end_of e) page) gone).1

  -- a page that stands somewhere, doesn't get new bytes and isn't cleared isn't touched
  pub stays_apart : (page : ℕ) → is_there d page ≡ true → (In (pages_put e d) page → ⊥) → is_cleared e page ≡ false → IsApart e.off (end_of e) page
  stays_apart page stood none kept = elim (touched_or_apart e.off (end_of e) page) [
    | inr apart ↦ apart
    | inl t ↦
        let facts = not_put page none t in
        absurd (elim facts.1 [
          | inl hole ↦ both_ways (is_there d page) hole stood
          | inr covers ↦ both_ways (is_cleared e page) kept (and_from e.clears (covers_whole e.off (end_of e) page) facts.0 covers)
        ])
  ]

  abbrev pub uncleared : NumberMap ℕ
  uncleared = finite.retain_keys d.puts (λ page. not (is_cleared e page))

  pub uncleared_same : (page : ℕ) → is_cleared e page ≡ false → finite.get uncleared page ≡ finite.get d.puts page
  uncleared_same page is = retained_same d.puts (λ q. not (is_cleared e q)) page (ap not is)

  -- of those that were put, the ones that become holes are those that are cleared
  pub uncleared_is : finite.retain_keys d.puts (λ page. not (is_hole (fate_of e d page))) ≡ uncleared
  uncleared_is = same (finite.retain_keys d.puts (λ page. not (is_hole (fate_of e d page)))) uncleared (λ page.
      retained_at d.puts (λ q. not (is_hole (fate_of e d q))) page ∙ by page (finite.get d.puts page) refl
      ∙ sym (retained_at d.puts (λ q. not (is_cleared e q)) page))
    where
      cleared_has : (page : ℕ) → (is_touched e page && is_cleared e page) ≡ is_cleared e page
      cleared_has page = elim (cases_Bool (is_cleared e page)) [
        | inl gone ↦ and_from (is_touched e page) (is_cleared e page) (touched_has e.off (end_of e) page (cleared_touched page gone)) gone ∙ sym gone
        | inr not ↦ and_right (is_touched e page) (is_cleared e page) not ∙ sym not
      ]

      by : (page : ℕ) (x : Option ℕ) → finite.get d.puts page ≡ x → cond (not (is_hole (fate_of e d page))) (finite.get d.puts page) None
          ≡ cond (not (is_cleared e page)) (finite.get d.puts page) None
      by page None p = ap (λ v. cond (not (is_hole (fate_of e d page))) v None) p ∙ neither (not (is_hole (fate_of e d page))) (not (is_cleared e page)) None
          ∙ sym (ap (λ v. cond (not (is_cleared e page)) v None) p)
      by page (Some taking) p = ap (λ b. cond (not b) (finite.get d.puts page) None)
          (hole_is e.off (end_of e) e.clears d page taking p ∙ cleared_has page)

  -- ---- after it

  module _ (n : ℕ) where
    abbrev pub then : Draft
    then = drafted e n d

    pub puts_then : then.puts ≡ with_takings n (pages_taking e d) uncleared
    puts_then = ap (with_takings n (pages_taking e d)) uncleared_is

    left_as : (page : ℕ) → is_left (fate_of e d page) ≡ not (is_touched e page)
    left_as page = left_is e.off (end_of e) e.clears d page

    pub kept_touched : (page : ℕ) → is_touched e page ≡ true → finite.get then.kept page ≡ None
    kept_touched page is = retained_none d.kept (λ q. is_left (fate_of e d q)) page (left_as page ∙ ap not is)

    pub kept_same : (page : ℕ) → is_touched e page ≡ false → finite.get then.kept page ≡ finite.get d.kept page
    kept_same page is = retained_same d.kept (λ q. is_left (fate_of e d q)) page (left_as page ∙ ap not is)

    -- one that stands where it stood isn't touched
    pub kept_apart : (page : ℕ) (place : Place) → finite.get then.kept page ≡ Some place → is_touched e page ≡ false
    kept_apart page place is = false_from_ne_true (is_touched e page)
        (λ t. let two : None ≡ Some place = sym (kept_touched page t) ∙ is in absurd cc)

    pub kept_was : (page : ℕ) (place : Place) → finite.get then.kept page ≡ Some place → finite.get d.kept page ≡ Some place
    kept_was page place is = sym (kept_same page (kept_apart page place is)) ∙ is

    pub taken : (page : ℕ) → In (pages_taking e d) page → HasTaking n (length (pages_taking e d)) then.puts page
    taken page is = subst (λ m. HasTaking n (length (pages_taking e d)) m page) (sym puts_then)
        (inside (pages_taking e d) n uncleared taking_ascends page is)

    pub puts_same : (page : ℕ) → (In (pages_taking e d) page → ⊥) → is_cleared e page ≡ false → finite.get then.puts page ≡ finite.get d.puts page
    puts_same page none kept = ap (λ m. finite.get m page) puts_then ∙ outside (pages_taking e d) n uncleared page none ∙ uncleared_same page kept

    pub puts_cleared : (page : ℕ) → is_cleared e page ≡ true → finite.get then.puts page ≡ None
    puts_cleared page gone = ap (λ m. finite.get m page) puts_then
        ∙ outside (pages_taking e d) n uncleared page (λ is. both_ways (is_cleared e page) (put_stays page (taking_put page is)) gone)
        ∙ retained_none d.puts (λ q. not (is_cleared e q)) page (ap not gone)

    -- a page that was put before keeps its taking where it gets new bytes
    pub put_again : (page : ℕ) → In (pages_put e d) page → finite.contains_key d.puts page ≡ true → finite.get then.puts page ≡ finite.get d.puts page
    put_again page put was = puts_same page
        (λ is. both_ways (finite.contains_key d.puts page)
        (not-true (finite.contains_key d.puts page) (sym (takes_unput page put) ∙ (of_filter takes_one (pages_put e d) page is).1)) was)
        (put_stays page put)

    pub put_first : (page : ℕ) → In (pages_put e d) page → finite.contains_key d.puts page ≡ false → HasTaking n (length (pages_taking e d)) then.puts page
    put_first page put none = taken page (in_filter takes_one (pages_put e d) page put
        (takes_unput page put ∙ not_from_false (finite.contains_key d.puts page) none))

    pub put_has : (page : ℕ) → In (pages_put e d) page → (taking : ℕ) × (finite.get then.puts page ≡ Some taking)
    put_has page put = elim (cases_Bool (finite.contains_key d.puts page)) [
      | inl was ↦ let v = some_value (finite.get d.puts page) was in (v.0, put_again page put was ∙ v.1)
      | inr none ↦ let t = put_first page put none in (t.taking, t.put)
    ]

    pub was_put : (page taking : ℕ) → finite.get then.puts page ≡ Some taking
        → (finite.get d.puts page ≡ Some taking) ⊎ ((n ≤ taking) × (taking < n + length (pages_taking e d)))
    was_put page taking is = elim (in_or_not (pages_taking e d) page) [
      | inl has ↦
          let t = taken page has in
          let two : Some t.taking ≡ Some taking = sym t.put ∙ is in
          let same : t.taking ≡ taking = cc in
          inr (subst (λ x. n ≤ x) same t.from, subst (λ x. x < n + length (pages_taking e d)) same t.to)
      | inr none ↦ elim (cases_Bool (is_cleared e page)) [
        | inl gone ↦ absurd (let two : None ≡ Some taking = sym (puts_cleared page gone) ∙ is in cc)
        | inr kept ↦ inl (sym (puts_same page none kept) ∙ is)
      ]
    ]

    pub numbered : IsNumbered n d → IsNumbered (n + length (pages_taking e d)) then
    numbered before = record {
      below = λ page taking is. elim (was_put page taking is) [
        | inl was ↦ omega (arith, before.below page taking was)
        | inr new ↦ new.1
      ];
      alone = λ page other taking is was. elim (in_or_not (pages_taking e d) page) [
        | inl one ↦ elim (in_or_not (pages_taking e d) other) [
          | inl two ↦ alone (pages_taking e d) n uncleared taking_ascends page other taking one two
              (sym (ap (λ m. finite.get m page) puts_then) ∙ is) (sym (ap (λ m. finite.get m other) puts_then) ∙ was)
          | inr none ↦ absurd (apart page other taking one none is was)
        ]
        | inr none ↦ elim (in_or_not (pages_taking e d) other) [
          | inl two ↦ absurd (apart other page taking two none was is)
          | inr nor ↦ before.alone page other taking (before_of page taking none is) (before_of other taking nor was)
        ]
      ];
    }
      where
        before_of : (page taking : ℕ) → (In (pages_taking e d) page → ⊥) → finite.get then.puts page ≡ Some taking → finite.get d.puts page ≡ Some taking
        before_of page taking none is = elim (cases_Bool (is_cleared e page)) [
          | inl gone ↦ absurd (let two : None ≡ Some taking = sym (puts_cleared page gone) ∙ is in cc)
          | inr kept ↦ sym (puts_same page none kept) ∙ is
        ]

        apart : (page other taking : ℕ) → In (pages_taking e d) page → (In (pages_taking e d) other → ⊥) → finite.get then.puts page ≡ Some taking
            → finite.get then.puts other ≡ Some taking → ⊥
        apart page other taking one none is was =
            let t = taken page one in
            let two : Some t.taking ≡ Some taking = sym t.put ∙ is in
            let same : t.taking ≡ taking = cc in
            omega (arith, same, t.from, before.below other taking (before_of other taking none was))

    pub stays_both_apart : IsKeptOrPut d → IsKeptOrPut then
    stays_both_apart before page place is =
        let untouched = kept_apart page place is in
        puts_same page (λ has. both_ways (is_touched e page) untouched (touched_has e.off (end_of e) page (put_touched page (taking_put page has))))
        (false_from_ne_true (is_cleared e page) (λ gone. both_ways (is_touched e page) untouched (touched_has e.off (end_of e) page (cleared_touched page gone))))
        ∙ before page place (kept_was page place is)

    -- a page that stands anywhere gets new bytes, or stood there and isn't cleared
    pub stood_or_put : (page : ℕ) → is_there then page ≡ true → In (pages_put e d) page ⊎ ((is_there d page ≡ true) × (is_cleared e page ≡ false))
    stood_or_put page is = elim (in_or_not (pages_put e d) page) [
      | inl put ↦ inl put
      | inr none ↦ elim (or_cases (finite.contains_key then.kept page) (finite.contains_key then.puts page) is) [
        | inl kept ↦
            let v = some_value (finite.get then.kept page) kept in
            let apart : is_touched e page ≡ false = kept_apart page v.0 v.1 in
            inr (
              or_left (finite.contains_key d.kept page) (finite.contains_key d.puts page) (ap is_some (kept_was page v.0 v.1)),
              false_from_ne_true (is_cleared e page) (λ gone. both_ways (is_touched e page) apart (touched_has e.off (end_of e) page (cleared_touched page gone))),
            )
        | inr put ↦ elim (cases_Bool (is_cleared e page)) [
          | inl gone ↦ absurd (both_ways (finite.contains_key then.puts page) (ap is_some (puts_cleared page gone)) put)
          | inr stays ↦ inr (
            or_right (finite.contains_key d.kept page) (finite.contains_key d.puts page)
                (sym (ap is_some (puts_same page (λ has. none (taking_put page has)) stays)) ∙ put),
            stays,
          )
        ]
      ]
    ]
