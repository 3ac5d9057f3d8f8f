-- The bytes of a page with a piece laid over it, as they are put together.
use Rattle.std.proofs.Common.{◌≡◌, inl, inr, ℕ, ◌+◌, ◌-◌, ◌*◌, ◌<◌, ◌≤◌, ◌==◌, true, false, cond, List, [], ◌∷◌, ◌++◌, length, min, take, drop, replicate, refl, sym, ap, ◌∙◌, arith, take_all, append_assoc, append-nil, length-append, length-drop}
use Rattle.std.specs.List.{AllByRecursion}
use Rattle.std.proofs.Math.Seq.{take-append-add}
use Rattle.std.proofs.lemmas.Bool.{cases_lt}
use Rattle.std.proofs.lemmas.Bool.Decides.{nat_tests}
use Rattle.std.proofs.lemmas.List.{length-take-le, take-append-le, drop_all, drop-drop, nil_from_length, take-append-drop, take-replicate, drop-replicate}
use borrow.Rule.Slice.PartMut.{put_mid}
use Rattle.byte_maps.specs.Units.{zeros}
use Rattle.byte_maps.proofs.Prelude.{length-zeros}
use Rattle.object_model.specs.Prelude.{resized, overwritten}
use Rattle.plan_rows.specs.declared.plan.ReadUnit.{ReadUnit}
use Rattle.plan_drafts.specs.Edits.{page_after, bytes_read}

-- ---- zeros

pub zeros_are : (n : ℕ) → replicate n 0 ≡ zeros n
unfolding zeros
zeros_are n = refl

part_of_zeros : (m at n : ℕ) → at + m ≤ n → take m (drop at (zeros n)) ≡ zeros m
unfolding zeros
part_of_zeros m at n within = ap (take m) (drop-replicate at n 0) ∙ take-replicate m (n - at) 0 (omega (arith, within))

-- ---- a piece over a page

not_none : (n : ℕ) → 0 < n → (n == 0) ≡ false
not_none n lt = grind (arith, nat_tests)

over_is : (old : List ℕ) (off : ℕ) (piece : List ℕ) → 0 < length piece
    → overwritten old off piece ≡ resized old off ++ (piece ++ drop (off + length piece) old)
over_is old off piece some = ap (λ b. cond b old (resized old off ++ piece ++ drop (off + length piece) old)) (not_none (length piece) some)
    ∙ append_assoc (resized old off) piece (drop (off + length piece) old)

resized_low : (old : List ℕ) (n : ℕ) → n ≤ length old → resized old n ≡ take n old
resized_low old n le = ap (λ k. take n old ++ replicate k 0) (let e : n - length old ≡ 0 = omega (arith, le) in e) ∙ append-nil (take n old)

-- the bytes of a page that is covered wholly are those of the piece
pub shared_is : (off : ℕ) (piece : List ℕ) (page : ℕ) (old : List ℕ) (at : ℕ) → at ≡ 4096 * page - off → off ≤ 4096 * page
    → 4096 * page + 4096 ≤ off + length piece → take 4096 (drop at piece) ≡ page_after off piece page old
shared_is off piece page old at is from to =
    let part : List ℕ = drop (4096 * page - off) piece in
    let some : 4096 ≤ length (drop (4096 * page - off) piece) = omega (arith, length-drop (4096 * page - off) piece) in
    let none : off - 4096 * page ≡ 0 = omega arith in
    sym (
    ap (take 4096) (over_is old (off - 4096 * page) part (omega (arith, some)))
    ∙ ap (λ n. take 4096 (resized old n ++ (part ++ drop (off - 4096 * page + length part) old))) none
    ∙ ap (λ l. take 4096 (l ++ (part ++ drop (off - 4096 * page + length part) old))) (resized_low old 0 (omega arith))
    ∙ take-append-le 4096 part (drop (off - 4096 * page + length part) old) some
    ∙ ap (λ n. take 4096 (drop n piece)) (sym is)
    )

module _ (old part : List ℕ) (lo : ℕ) (whole : length old ≡ 4096) (low : lo < 4096) (some : 0 < length part) where
  front_length : length (take lo old) ≡ lo
  front_length = length-take-le lo old (omega arith)

  laid : take 4096 (overwritten old lo part) ≡ take 4096 (take lo old ++ (part ++ drop (lo + length part) old))
  laid = ap (take 4096) (over_is old lo part some)
      ∙ ap (λ l. take 4096 (l ++ (part ++ drop (lo + length part) old))) (resized_low old lo (omega arith))

  -- where the piece ends in the page
  ends_inside : lo + length part ≤ 4096 → take 4096 (overwritten old lo part) ≡ take lo old ++ (part ++ drop (lo + length part) old)
  ends_inside le = laid ∙ take_all 4096 (take lo old ++ (part ++ drop (lo + length part) old)) (omega (
    arith,
    length-append (take lo old) (part ++ drop (lo + length part) old),
    length-append part (drop (lo + length part) old),
    length-drop (lo + length part) old,
    front_length,
  ))

  -- where it goes on behind it
  ends_behind : 4096 ≤ lo + length part → take 4096 (overwritten old lo part) ≡ take lo old ++ take (4096 - lo) part
  ends_behind le =
      let rest : List ℕ = part ++ drop (lo + length part) old in
      let size : 4096 ≡ length (take lo old) + (4096 - lo) = omega (arith, front_length) in
      laid
      ∙ ap (λ n. take n (take lo old ++ rest)) size
      ∙ take-append-add (take lo old) rest (4096 - lo)
      ∙ ap (λ l. take lo old ++ l) (take-append-le (4096 - lo) part (drop (lo + length part) old) (omega (arith, le)))

  pub laid_is : (hi : ℕ) → hi ≡ min 4096 (lo + length part)
      → take lo old ++ (take (hi - lo) part ++ drop hi old) ≡ take 4096 (overwritten old lo part)
  laid_is hi is = elim (cases_lt (lo + length part) 4096) [
    | inl lt ↦
        let all : length part ≤ hi - lo = omega (arith, is, lt) in
        let end : hi ≡ lo + length part = omega (arith, is, lt) in
        ap (λ l. take lo old ++ (l ++ drop hi old)) (take_all (hi - lo) part all)
        ∙ ap (λ n. take lo old ++ (part ++ drop n old)) end
        ∙ sym (ends_inside (omega (arith, lt)))
    | inr le ↦
        let end : hi - lo ≡ 4096 - lo = omega (arith, is, le) in
        ap (λ l. take lo old ++ (take (hi - lo) part ++ l)) (drop_all hi old (omega (arith, is, le)))
        ∙ ap (λ l. take lo old ++ l) (append-nil (take (hi - lo) part))
        ∙ ap (λ n. take lo old ++ take n part) end
        ∙ sym (ends_behind le)
  ]

-- no piece at all
laid_none : (old part : List ℕ) (lo hi : ℕ) → length old ≡ 4096 → lo < 4096 → length part ≡ 0 → hi ≡ min 4096 (lo + length part)
    → take lo old ++ (take (hi - lo) part ++ drop hi old) ≡ take 4096 (overwritten old lo part)
laid_none old part lo hi whole low none is =
    let test : (length part == 0) ≡ true = grind (arith, nat_tests) in
    let at : hi ≡ lo = omega arith in
    ap (λ l. take lo old ++ (l ++ drop hi old)) (ap (take (hi - lo)) (nil_from_length part none) ∙ take_all (hi - lo) [] (omega arith))
    ∙ ap (λ n. take lo old ++ drop n old) at
    ∙ take-append-drop lo old
    ∙ sym (
    ap (λ b. take 4096 (cond b old (resized old lo ++ part ++ drop (lo + length part) old))) test
    ∙ take_all 4096 old (omega (arith, whole))
    )

-- old bytes of a page, with a part of a piece written over those from `lo` to `hi`
pub patched_is : (off : ℕ) (piece : List ℕ) (page : ℕ) (old : List ℕ) (at lo hi : ℕ) → length old ≡ 4096 → off < 4096 * page + 4096
    → 4096 * page < off + length piece → at ≡ 4096 * page - off → lo ≡ off - 4096 * page → hi ≡ min 4096 (off + length piece - 4096 * page)
    → put_mid lo (hi - lo) old (take (hi - lo) (drop at piece)) ≡ page_after off piece page old
patched_is off piece page old at lo hi whole from to at_is lo_is hi_is =
    let part : List ℕ = drop (4096 * page - off) piece in
    let long : length (drop (4096 * page - off) piece) ≡ length piece - (4096 * page - off) = length-drop (4096 * page - off) piece in
    let start : off - 4096 * page < 4096 = omega arith in
    let end : hi ≡ min 4096 (off - 4096 * page + length (drop (4096 * page - off) piece)) = omega arith in
    let join : lo + (hi - lo) ≡ hi = omega arith in
    ap (λ l. take lo old ++ (take (hi - lo) (drop at piece) ++ l)) (drop-drop (hi - lo) lo old ∙ ap (λ n. drop n old) join)
    ∙ ap (λ n. take lo old ++ (take (hi - lo) (drop n piece) ++ drop hi old)) at_is
    ∙ ap (λ n. take n old ++ (take (hi - n) part ++ drop hi old)) lo_is
    ∙ elim (cases_lt 0 (length part)) [
      | inl some ↦ laid_is old part (off - 4096 * page) whole start some hi end
      | inr none ↦ laid_none old part (off - 4096 * page) hi whole start (omega (arith, none)) end
    ]

-- the same with zeros
pub zeroed_is : (off end page : ℕ) (old : List ℕ) (lo hi : ℕ) → off ≤ end → length old ≡ 4096 → off < 4096 * page + 4096 → 4096 * page < end
    → lo ≡ off - 4096 * page → hi ≡ min 4096 (end - 4096 * page)
    → put_mid lo (hi - lo) old (replicate (hi - lo) 0) ≡ page_after off (zeros (end - off)) page old
zeroed_is off end page old lo hi order whole from to lo_is hi_is =
    let size : length (zeros (end - off)) ≡ end - off = length-zeros (end - off) in
    let within : 4096 * page - off + (hi - lo) ≤ end - off = omega arith in
    let hi_at : hi ≡ min 4096 (off + length (zeros (end - off)) - 4096 * page) = omega arith in
    ap (put_mid lo (hi - lo) old) (zeros_are (hi - lo) ∙ sym (part_of_zeros (hi - lo) (4096 * page - off) (end - off) within))
    ∙ patched_is off (zeros (end - off)) page old (4096 * page - off) lo hi whole from (omega arith) refl lo_is hi_at

-- ---- what is known of lists of old bytes

pub put_mid_length : (lo k : ℕ) (xs ys : List ℕ) → lo + k ≤ length xs → length ys ≡ k → length (put_mid lo k xs ys) ≡ length xs
put_mid_length lo k xs ys within same = omega (
  arith,
  length-append (take lo xs) (ys ++ drop k (drop lo xs)),
  length-append ys (drop k (drop lo xs)),
  length-drop k (drop lo xs),
  length-drop lo xs,
  length-take-le lo xs (omega (arith, within)),
)

-- the old bytes of a unit are whole, where all that were read are
pub read_whole : (read : List ReadUnit) (unit : ℕ) → AllByRecursion (λ (r : ReadUnit). length r.bytes ≡ 4096) read → length (bytes_read read unit) ≡ 4096
read_whole [] unit all = length-zeros 4096
read_whole (r ∷ rs) unit all = elim (r.unit == unit) as (λ b. length (cond b r.bytes (bytes_read rs unit)) ≡ 4096) [
  | true ↦ all.0
  | false ↦ read_whole rs unit all.1
]
