-- How many units an edit takes: one for each page of a write, two for zeros, one for a truncate.
use Rattle.std.proofs.Common.{◌≡◌, inl, inr, ℕ, zero, suc, ◌+◌, ◌-◌, ◌*◌, ◌/◌, ◌<◌, ◌≤◌, Bool, true, false, cond, List, [], ◌∷◌, length, filter, eqb, refl, sym, ap, subst, arith}
use Rattle.std.specs.List.{range_with_len}
use Rattle.std.proofs.lemmas.Bool.{cases_lt, cases_eq, cond-false, cond_both, ne_eqb}
use Rattle.std.proofs.lemmas.List.FromFn.{length-range_with_len}
use Rattle.byte_maps.specs.Units.{zeros}
use Rattle.byte_maps.proofs.Prelude.{length-zeros}
use Rattle.object_model.specs.declared.op.Op.{Op}
use Rattle.object_model.specs.declared.op.Op.TheVariants.{Write, Zero, Truncate}
use Rattle.object_model.specs.Prelude.{object_limit, payload_of, payload_limit}
use Rattle.plan_drafts.specs.declared.draft.Draft.{Draft}
use Rattle.plan_drafts.specs.Edits.{Edit, end_of, edit_of, fate_of, gets_bytes, takes_unit, pages_touched, pages_put, pages_taking, IsInLimits}
use Rattle.plan_drafts.specs.Plans.{most_units_of}
use Rattle.page_edits.proofs.PageRanges.{some_touched, none_touched, is_covered}
use Rattle.page_edits.proofs.EditSizes.{zeros_cut, length_cut}
use Rattle.page_edits.proofs.Fates.{gets_none}

-- ---- how many numbers of a range pass a test

module _ (test : ℕ → Bool) where
  length_filter : (xs : List ℕ) → length (filter test xs) ≤ length xs
  length_filter [] = omega arith
  length_filter (x ∷ xs) = elim (test x) as (λ b. length (cond b (x ∷ filter test xs) (filter test xs)) ≤ suc (length xs)) [
    | true ↦ omega (arith, length_filter xs)
    | false ↦ omega (arith, length_filter xs)
  ]

  abbrev passing : ℕ → ℕ → List ℕ
  passing a n = filter test (range_with_len a n)

  one_more : (a n count : ℕ) → length (passing (a + 1) n) ≤ count → length (passing a (suc n)) ≤ suc count
  one_more a n count few = elim (test a) as (λ b. length (cond b (a ∷ passing (a + 1) n) (passing (a + 1) n)) ≤ suc count) [
    | true ↦ omega (arith, few)
    | false ↦ omega (arith, few)
  ]

  no_more : (a n count : ℕ) → test a ≡ false → length (passing (a + 1) n) ≤ count → length (passing a (suc n)) ≤ count
  no_more a n count fails few = subst (λ b. length (cond b (a ∷ passing (a + 1) n) (passing (a + 1) n)) ≤ count) (sym fails) few

  none_pass : (n a : ℕ) → ((x : ℕ) → a ≤ x → x < a + n → test x ≡ false) → length (passing a n) ≤ 0
  none_pass zero a fail = omega arith
  none_pass (suc n) a fail = no_more a n 0 (fail a (omega arith) (omega arith))
      (none_pass n (a + 1) (λ x from to. fail x (omega (arith, from)) (omega (arith, to))))

  first_passes : (n a : ℕ) → ((x : ℕ) → a < x → x < a + n → test x ≡ false) → length (passing a n) ≤ 1
  first_passes zero a fail = omega arith
  first_passes (suc n) a fail = one_more a n 0 (none_pass n (a + 1) (λ x from to. fail x (omega (arith, from)) (omega (arith, to))))

  last_passes : (n a : ℕ) → ((x : ℕ) → a ≤ x → x + 1 < a + n → test x ≡ false) → length (passing a n) ≤ 1
  last_passes zero a fail = omega arith
  last_passes (suc n) a fail = elim (cases_lt 0 n) [
    | inl some ↦ no_more a n 1 (fail a (omega arith) (omega (arith, some)))
        (last_passes n (a + 1) (λ x from to. fail x (omega (arith, from)) (omega (arith, to))))
    | inr none ↦ omega (arith, none, length_filter (range_with_len a (suc n)), length-range_with_len a (suc n))
  ]

  ends_pass : (n a : ℕ) → ((x : ℕ) → a < x → x + 1 < a + n → test x ≡ false) → length (passing a n) ≤ 2
  ends_pass zero a fail = omega arith
  ends_pass (suc n) a fail = one_more a n 1 (last_passes n (a + 1) (λ x from to. fail x (omega (arith, from)) (omega (arith, to))))

-- ---- the pages that get new bytes

abbrev gets : Edit → Draft → ℕ → Bool
gets e d page = gets_bytes (fate_of e d page)

module _ (e : Edit) (d : Draft) where
  none_put : end_of e ≤ e.off → length (pages_put e d) ≤ 0
  none_put none = subst (λ l. length (filter (gets e d) l) ≤ 0) (sym (none_touched e.off (end_of e) none)) (omega arith)

  -- zeros put no page that they cover wholly
  covered_fails : e.clears ≡ true → (page : ℕ) → e.off ≤ 4096 * page → 4096 * page + 4096 ≤ end_of e → gets e d page ≡ false
  covered_fails clears page from to =
      gets_none e.off (end_of e) e.clears d page clears (is_covered e.off (end_of e) page from to)

  two_put : e.clears ≡ true → e.off < end_of e → length (pages_put e d) ≤ 2
  two_put clears some = subst (λ l. length (filter (gets e d) l) ≤ 2) (sym (some_touched e.off (end_of e) some))
      (ends_pass (gets e d) ((end_of e + 4095) / 4096 - e.off / 4096) (e.off / 4096)
      (λ x from to. covered_fails clears x (omega (arith, from)) (omega (arith, to))))

  -- only the first page may be covered in part, where the end is at the end of a page
  one_put : e.clears ≡ true → (count : ℕ) → end_of e ≡ 4096 * count → e.off < end_of e → length (pages_put e d) ≤ 1
  one_put clears count whole some = subst (λ l. length (filter (gets e d) l) ≤ 1) (sym (some_touched e.off (end_of e) some))
      (first_passes (gets e d) ((end_of e + 4095) / 4096 - e.off / 4096) (e.off / 4096)
      (λ x from to. covered_fails clears x (omega (arith, from)) (omega (arith, to, whole))))

pub few_put : (op : Op) (size : ℕ) (d : Draft) → length (pages_put (edit_of op size) d) ≤ most_units_of op
few_put (Write o off bytes) size d = length_filter (gets (edit_of (Write o off bytes) size) d) (pages_touched off (off + length bytes))
few_put (Zero o off len) size d = elim (cases_eq len 0) [
  | inl none ↦
      let no_bytes : off + length (zeros len) ≤ off = omega (arith, none, length-zeros len) in
      omega (arith, none_put (edit_of (Zero o off len) size) d no_bytes)
  | inr apart ↦
      let some : off < off + length (zeros len) = elim (cases_lt 0 len) [
        | inl lt ↦ omega (arith, lt, length-zeros len)
        | inr le ↦ absurd (apart (omega (arith, le)))
      ] in
      subst (λ n. length (pages_put (edit_of (Zero o off len) size) d) ≤ n) (sym (cond-false (eqb len 0) 0 2 (ne_eqb len 0 apart)))
      (two_put (edit_of (Zero o off len) size) d refl some)
]
few_put (Truncate o to) size d = elim (cases_lt to (to + length (zeros_cut to size))) [
  | inr none ↦ omega (arith, none_put (edit_of (Truncate o to) size) d none)
  | inl some ↦ elim (length_cut to size) [
    | inr same ↦ absurd (omega (arith, some, same.1))
    | inl less ↦
        let whole : to + length (zeros_cut to size) ≡ 4096 * 32768 = omega (arith, some, less.1) in
        one_put (edit_of (Truncate o to) size) d refl 32768 whole some
  ]
]
few_put op size d = omega arith

pub few_units : (op : Op) (size : ℕ) (d : Draft) → length (pages_taking (edit_of op size) d) ≤ most_units_of op
few_units op size d = omega (
  arith,
  length_filter (λ page. takes_unit (fate_of (edit_of op size) d page)) (pages_put (edit_of op size) d),
  few_put op size d,
)

-- ---- how many that are at most

pages_within : (off end : ℕ) → end ≤ object_limit → length (pages_touched off end) ≤ 32768
pages_within off end within = elim (cases_lt off end) [
  | inr none ↦ omega (arith, ap (λ l. length l) (none_touched off end none))
  | inl some ↦
      let short : end ≤ 134217728 = within in
      omega (arith, short, ap (λ l. length l) (some_touched off end some), length-range_with_len (off / 4096) ((end + 4095) / 4096 - off / 4096))
]

pub units_within : (op : Op) → IsInLimits op → most_units_of op ≤ 32768
units_within (Write o off bytes) within = pages_within off (off + length bytes) within
units_within (Zero o off len) within = cond_both (eqb len 0) 0 2 (λ n. n ≤ 32768) (λ none. omega arith) (λ some. omega arith)
units_within (Truncate o to) within = omega arith
units_within op within = omega arith

pages_of_payload : (off len : ℕ) → len ≤ payload_limit → length (pages_touched off (off + len)) ≤ 258
pages_of_payload off len small = elim (cases_lt off (off + len)) [
  | inr none ↦ omega (arith, ap (λ l. length l) (none_touched off (off + len) none))
  | inl some ↦
      let short : len ≤ 1048576 = small in
      omega (
        arith,
        short,
        ap (λ l. length l) (some_touched off (off + len) some),
        length-range_with_len (off / 4096) ((off + len + 4095) / 4096 - off / 4096),
      )
]

pub units_of_payload : (op : Op) → payload_of op ≤ payload_limit → most_units_of op ≤ 258
units_of_payload (Write o off bytes) small = pages_of_payload off (length bytes) small
units_of_payload (Zero o off len) small = cond_both (eqb len 0) 0 2 (λ n. n ≤ 258) (λ none. omega arith) (λ some. omega arith)
units_of_payload (Truncate o to) small = omega arith
units_of_payload op small = omega arith
