-- The pages that have bytes of a range, and those that are in it wholly.
use Rattle.std.proofs.Common.{◌≡◌, inl, inr, ℕ, ◌+◌, ◌-◌, ◌*◌, ◌/◌, ◌<◌, ◌≤◌, true, false, List, [], ◌⊎◌, ltb, sym, subst, arith}
use Rattle.std.specs.Prelude.{nat_le}
use Rattle.std.specs.List.{range_with_len}
use Rattle.std.proofs.lemmas.Bool.{cases_lt, and_parts, and_cases, and_from, cond-true, cond-false, lt-ltb, le-ltb, leb-true, leb-false, le-leb}
use Rattle.unit_fields.specs.Prelude.{Ascends}
use Rattle.plan_drafts.specs.Edits.{covers_whole, pages_touched}
use Rattle.page_edits.proofs.Lists.{In, in_range, of_range, range_ascends}

-- the page has bytes of the range
pub record IsTouched (off end page : ℕ) : Type 0 where
  pub some : off < end
  pub from : off < 4096 * page + 4096
  pub to : 4096 * page < end

-- it has none
abbrev pub IsApart : ℕ → ℕ → ℕ → Type 0
IsApart off end page = (end ≤ off) ⊎ ((4096 * page + 4096 ≤ off) ⊎ (end ≤ 4096 * page))

pub touched_or_apart : (off end page : ℕ) → IsTouched off end page ⊎ IsApart off end page
touched_or_apart off end page = elim (cases_lt off end) [
  | inr none ↦ inr (inl none)
  | inl some ↦ elim (cases_lt off (4096 * page + 4096)) [
    | inr behind ↦ inr (inr (inl behind))
    | inl from ↦ elim (cases_lt (4096 * page) end) [
      | inr before ↦ inr (inr (inr before))
      | inl to ↦ inl (record { some = some; from = from; to = to })
    ]
  ]
]

-- ---- the list of the pages

module _ (off end : ℕ) where
  abbrev range : List ℕ
  range = range_with_len (off / 4096) ((end + 4095) / 4096 - off / 4096)

  pub some_touched : off < end → pages_touched off end ≡ range
  some_touched lt = cond-true (ltb off end) range [] (lt-ltb off end lt)

  pub none_touched : end ≤ off → pages_touched off end ≡ []
  none_touched le = cond-false (ltb off end) range [] (le-ltb off end le)

  pub in_touched : (page : ℕ) → IsTouched off end page → In (pages_touched off end) page
  in_touched page t =
      let from : off < 4096 * page + 4096 = t.from in
      let to : 4096 * page < end = t.to in
      subst (λ l. In l page) (sym (some_touched t.some))
      (in_range ((end + 4095) / 4096 - off / 4096) (off / 4096) page (omega (arith, from)) (omega (arith, from, to)))

  pub of_touched : (page : ℕ) → In (pages_touched off end) page → IsTouched off end page
  of_touched page is = elim (cases_lt off end) [
    | inr none ↦ absurd (subst (λ l. In l page) (none_touched none) is)
    | inl some ↦
        let r = of_range ((end + 4095) / 4096 - off / 4096) (off / 4096) page (subst (λ l. In l page) (some_touched some) is) in
        let from : off / 4096 ≤ page = r.0 in
        let to : page < off / 4096 + ((end + 4095) / 4096 - off / 4096) = r.1 in
        record { some = some; from = omega (arith, from); to = omega (arith, from, to) }
  ]

  pub touched_ascends : Ascends (pages_touched off end)
  touched_ascends = elim (cases_lt off end) [
    | inr none ↦ subst Ascends (sym (none_touched none)) tt
    | inl some ↦ subst Ascends (sym (some_touched some)) (range_ascends ((end + 4095) / 4096 - off / 4096) (off / 4096))
  ]

-- ---- the pages that are covered wholly

module _ (off end page : ℕ) where
  pub covered : covers_whole off end page ≡ true → (off ≤ 4096 * page) × (4096 * page + 4096 ≤ end)
  covered is = let both = and_parts (nat_le off (4096 * page)) (nat_le (4096 * page + 4096) end) is in (
    leb-true off (4096 * page) both.0,
    leb-true (4096 * page + 4096) end both.1,
  )

  pub in_part : covers_whole off end page ≡ false → (4096 * page < off) ⊎ (end < 4096 * page + 4096)
  in_part is = elim (and_cases (nat_le off (4096 * page)) (nat_le (4096 * page + 4096) end) is) [
    | inl low ↦ inl (leb-false off (4096 * page) low)
    | inr high ↦ inr (leb-false (4096 * page + 4096) end high)
  ]

  pub is_covered : off ≤ 4096 * page → 4096 * page + 4096 ≤ end → covers_whole off end page ≡ true
  is_covered from to = and_from (nat_le off (4096 * page)) (nat_le (4096 * page + 4096) end) (le-leb off (4096 * page) from)
      (le-leb (4096 * page + 4096) end to)

  pub covered_touched : covers_whole off end page ≡ true → IsTouched off end page
  covered_touched is =
      let c = covered is in
      let from : off ≤ 4096 * page = c.0 in
      let to : 4096 * page + 4096 ≤ end = c.1 in
      record { some = omega (arith, from, to); from = omega (arith, from); to = omega (arith, to) }
