-- Runs of pages, and what reads of them give.
use Rattle.std.proofs.Common.{◌≡◌, inl, inr, ℕ, ◌+◌, ◌-◌, ◌*◌, ◌<◌, ◌≤◌, List, [], ◌++◌, length, take, set, get_or, Option, Some, None, unwrap_or, refl, sym, ap, subst, ◌∙◌, arith, length-append}
use Rattle.std.specs.Prelude.{IfSome, MatchOption, Result, Ok, Err, IfErr, IsErr}
use Rattle.std.specs.Result.{IsErrAnd}
use Rattle.std.proofs.lemmas.Bool.{cases_lt}
use Rattle.std.proofs.lemmas.List.{length-take-le, get_or-set_same, get_or-set_other}
use Rattle.byte_maps.specs.Units.{unit_at, zeros, IsUnits}
use Rattle.byte_maps.proofs.Prelude.{length-unit_at, length-zeros, unit_at-zeros, unit_at-whole, piece_of_front}
use Rattle.unit_fields.specs.declared.width.Width.{Width}
use Rattle.crc32c_csum.specs.Prelude.{after_bits, crc32c}
use Rattle.block_device.specs.Prelude.{last, HasNoBadDone, Disk, History, HasRead, Flight, IsApart, IsNotInFlight, last_at}
use Rattle.meta_rows.specs.Prelude.{Rows}
use Rattle.store_image.specs.Prelude.{PageUnit}
use Rattle.read_facts.specs.declared.view.BadSum.{BadSum}
use Rattle.read_facts.specs.Prelude.{IsHeldAt, IsGoodPage, hole, mapped, AreGoodPages, IsFirstBad}
use Rattle.read_facts.proofs.Pages.{good_appended, none_good, bad_behind_good}
use Rattle.write_buffers.specs.Prelude.{AreNotIn}
use Rattle.page_sources.specs.declared.parts.PartFail.{PartFail}
use Rattle.page_sources.specs.declared.parts.PartFail.TheVariants as why
use Rattle.page_sources.specs.Found.{unit_with, PagesByRows, unit_found, IsFoundOn, FindUnitsOf}
use Rattle.page_sources.specs.Parts.{CanRead, AreHoles, IsOnUnit, AreOnUnits, AreKept, IsChecked, AreChecked, AreSums, IsMismatch, GivesPages, GivesBad, IsPartFail, IsUnitsFail}

-- what holds of number 0 holds of each below 1
pub each_of_one : (P : ℕ → Type 0) → P 0 → (i : ℕ) → i < 1 → P i
each_of_one P is i lt = let same : 0 ≡ i = omega (arith, lt) in subst P same is

-- what holds of each below a number and of the number itself
pub each_and_next : (P : ℕ → Type 0) (n : ℕ) → ((i : ℕ) → i < n → P i) → P n → (i : ℕ) → i < n + 1 → P i
each_and_next P n each is i lt = elim (cases_lt i n) [
  | inl below ↦ each i below
  | inr ge ↦ let same : n ≡ i = omega (arith, lt, ge) in subst P same is
]

-- of a run of holes the first is one
pub one_hole : (pages : PagesByRows) (first : ℕ) → unit_found pages first ≡ None → AreHoles pages first 1
one_hole pages first is =
    let same : first ≡ first + 0 = omega arith in
    each_of_one (λ i. unit_found pages (first + i) ≡ None) (subst (λ (p : ℕ). unit_found pages p ≡ None) same is)

-- one hole more
pub hole_more : (pages : PagesByRows) (first n : ℕ) → AreHoles pages first n → unit_found pages (first + n) ≡ None → AreHoles pages first (n + 1)
hole_more pages first n are is = each_and_next (λ i. unit_found pages (first + i) ≡ None) n are is

-- one unit more
pub kept_more : (pages : PagesByRows) (first at n csum : ℕ) (sums : List ℕ) → n < length sums → AreKept pages first at n sums
    → IsFoundOn pages (first + n) (at + n) csum → AreKept pages first at (n + 1) (set sums n csum)
kept_more pages first at n csum sums fits are is =
    let P : ℕ → Type 0 = λ i. IsFoundOn pages (first + i) (at + i) (get_or (set sums n csum) i 0) in
    each_and_next P n
    (λ i lt. are i lt ∙ ap (λ k. Some (unit_with (at + i) k)) (sym (get_or-set_other sums n i csum 0 (omega (arith, lt)))))
    (is ∙ ap (λ k. Some (unit_with (at + n) k)) (sym (get_or-set_same sums n csum 0 fits)))

-- so they stand on consecutive units
pub on_units : (pages : PagesByRows) (first at count : ℕ) (sums : List ℕ) → AreKept pages first at count sums → AreOnUnits pages first at count
on_units pages first at count sums kept i lt = (get_or sums i 0, kept i lt)

-- the checksum that is kept is one
same_csum : (x : Option PageUnit) (on : PageUnit) (at kept : ℕ) → x ≡ Some on → x ≡ Some (unit_with at kept) → kept ≡ on.csum
same_csum x on at kept is same = ap (λ y. (unwrap_or y on).csum) (sym same ∙ is)

-- pages with the checksums that are kept for them are checked
pub sums_checked : (pages : PagesByRows) (first at count n : ℕ) (bytes sums : List ℕ) → n ≤ count → AreKept pages first at count sums → AreSums n bytes sums
    → AreChecked pages first n bytes
sums_checked pages first at count n bytes sums le kept are i lt on there =
    sym (are i lt) ∙ same_csum (unit_found pages (first + i)) on (at + i) (get_or sums i 0) there (kept i (omega (arith, lt, le)))

-- a run of units is apart from a flight where each of its units is
run_apart : (at count : ℕ) (f : Flight) → 0 < count → ((i : ℕ) → i < count → IsApart (at + i) 4096 f) → IsApart at (4096 * count) f
run_apart at count f some each = elim (cases_lt f.first at) [
  | inl below ↦ of_first (each 0 some) below
  | inr from ↦
      elim (cases_lt f.first (at + count)) [
        | inl inside ↦ of_inside from (each (f.first - at) (omega (arith, from, inside)))
        | inr past ↦ inr (inr (omega (arith, past)))
      ]
]
  where
    of_first : IsApart (at + 0) 4096 f → f.first < at → IsApart at (4096 * count) f
    of_first (inl none) below = inl none
    of_first (inr (inl before)) below = inr (inl (omega (arith, before)))
    of_first (inr (inr behind)) below = absurd (omega (arith, behind, below))

    of_inside : at ≤ f.first → IsApart (at + (f.first - at)) 4096 f → IsApart at (4096 * count) f
    of_inside from (inl none) = inl none
    of_inside from (inr (inl before)) = inl (omega (arith, from, before))
    of_inside from (inr (inr behind)) = absurd (omega (arith, from, behind))

-- no write in flight touches the units of a run that aren't in memory
pub run_free : (memory : ℕ → Option (List ℕ)) (d : Disk) (pages : PagesByRows) (first at count : ℕ) → CanRead memory d pages
    → AreOnUnits pages first at count
    → AreNotIn memory at count → 0 < count → IsNotInFlight d at (4096 * count)
run_free memory d pages first at count can on out some =
    λ k f below. run_apart at count (get_or d.flights k f) some (λ i lt. can.free (first + i) (unit_with (at + i) (on i lt).0) (on i lt).1 (out i lt) k f below)

-- what was read is what the units hold
held_by : (told : Option History) (at count i : ℕ) (bytes : List ℕ) → i < count
    → IfSome told (λ h. (k : ℕ) → k < count → HasNoBadDone h.log (at + k) → unit_at k bytes ≡ unit_at (at + k) (last h.start h.log))
    → IfSome told (λ h. HasNoBadDone h.log (at + i) → unit_at i bytes ≡ last_at h (at + i))
held_by None at count i bytes lt units = tt
held_by (Some h) at count i bytes lt units = units i lt

pub held : (d : Disk) (at count i : ℕ) (bytes : List ℕ) → HasRead d at count bytes → i < count → IsHeldAt d (at + i) (unit_at i bytes)
held d at count i bytes read lt = held_by d.history at count i bytes lt read.units

-- a page whose unit isn't in memory and that was read, with the checksum that is kept for it, is good
good_unit : (w : Width) (memory : ℕ → Option (List ℕ)) (d : Disk) (pages : PagesByRows) (first at count i : ℕ) (bytes : List ℕ) (rows : Rows) (c o : List ℕ)
    → AreOnUnits pages first at count → AreNotIn memory at count
    → HasRead d at count bytes → FindUnitsOf w rows c o pages → i < count → IsChecked pages (first + i) (unit_at i bytes)
    → IsGoodPage w memory (IsHeldAt d) rows c o (first + i) (unit_at i bytes)
good_unit w memory d pages first at count i bytes rows c o on out read is lt checked =
    let stand = on i lt in
    let on = unit_with (at + i) stand.0 in
    mapped on ((is (first + i) on).0 stand.1)
    (subst (λ (copy : Option (List ℕ)). MatchOption copy (IsHeldAt d (at + i) (unit_at i bytes) × (crc32c (unit_at i bytes) ≡ stand.0)) (λ b. unit_at i bytes ≡ b))
    (sym (out i lt)) (held d at count i bytes read lt, checked on stand.1))

-- pages on consecutive units that were read, with the checksums that are kept for them, are good
pub good_units : (memory : ℕ → Option (List ℕ)) (d : Disk) (pages : PagesByRows) (first at count : ℕ) (bytes : List ℕ)
    → AreOnUnits pages first at count
    → AreNotIn memory at count → HasRead d at count bytes → AreChecked pages first count bytes → GivesPages memory d pages first count bytes
good_units memory d pages first at count bytes on out read checked = record {
  size = read.size;
  good = λ w rows c o is. record {
    size = read.size;
    each = λ i lt. good_unit w memory d pages first at count i bytes rows c o on out read is lt (checked i lt);
  };
}

-- so are those in front of a bad one
unit_of_front : (n i : ℕ) (bytes : List ℕ) → i < n → unit_at i (take (4096 * n) bytes) ≡ unit_at i bytes
unfolding unit_at
unit_of_front n i bytes lt = piece_of_front (4096 * i) 4096 (4096 * n) bytes (omega (arith, lt))

good_front : (w : Width) (memory : ℕ → Option (List ℕ)) (d : Disk) (pages : PagesByRows) (first at count n : ℕ) (bytes : List ℕ) (rows : Rows) (c o : List ℕ)
    → AreOnUnits pages first at count → AreNotIn memory at count
    → HasRead d at count bytes → FindUnitsOf w rows c o pages → n < count → AreChecked pages first n bytes
    → AreGoodPages w memory (IsHeldAt d) rows c o first n (take (4096 * n) bytes)
good_front w memory d pages first at count n bytes rows c o on out read is lt checked = record {
  size = length-take-le (4096 * n) bytes (omega (arith, lt, read.size));
  each = λ i below. subst (IsGoodPage w memory (IsHeldAt d) rows c o (first + i)) (sym (unit_of_front n i bytes below))
      (good_unit w memory d pages first at count i bytes rows c o on out read is (omega (arith, below, lt)) (checked i below));
}

-- the first mismatch of pages that were read is the first bad page
pub bad_unit : (memory : ℕ → Option (List ℕ)) (d : Disk) (pages : PagesByRows) (first at count : ℕ) (bytes sums : List ℕ) (bad : BadSum)
    → AreKept pages first at count sums
    → AreNotIn memory at count → HasRead d at count bytes → IsMismatch at count bytes sums bad → GivesBad memory d pages first count bad
bad_unit memory d pages first at count bytes sums bad kept out read m w rows c o is =
    let there : IsFoundOn pages (first + m.index) bad.unit bad.kept =
    kept m.index m.within ∙ ap (λ u. Some (unit_with u (get_or sums m.index 0))) (sym m.unit) ∙ ap (λ k. Some (unit_with bad.unit k)) (sym m.is_kept) in
    let whole : 4096 * m.index + 4096 ≤ length bytes = omega (arith, m.within, read.size) in
    record {
      index = m.index;
      within = m.within;
      before = take (4096 * m.index) bytes;
      good = good_front w memory d pages first at count m.index bytes rows c o (on_units pages first at count sums kept) out read is m.within
          (sums_checked pages first at count m.index bytes sums (omega (arith, m.within)) kept m.before);
      bad = record {
        is_on = (is (first + m.index) (unit_with bad.unit bad.kept)).0 there;
        not_in_memory = ap memory m.unit ∙ out m.index m.within;
        bytes = unit_at m.index bytes;
        size = length-unit_at m.index bytes whole;
        holds = subst (λ (u : ℕ). IsHeldAt d u (unit_at m.index bytes)) (sym m.unit) (held d at count m.index bytes read m.within);
        is_found = m.is_found;
        differs = m.differs;
      };
    }

-- so a failed read of units is one of the pages that stand on them
pub units_fail : (memory : ℕ → Option (List ℕ)) (d : Disk) (pages : PagesByRows) (first at count : ℕ) (sums : List ℕ) (fail : PartFail)
    → AreKept pages first at count sums
    → AreNotIn memory at count → 0 < count → IsUnitsFail d at count sums fail → IsPartFail memory d pages first count fail
units_fail memory d pages first at count sums (why.BadPage bad) kept out some is = bad_unit memory d pages first at count is.0 sums bad kept out is.1 is.2
units_fail memory d pages first at count sums why.Memory kept out some is = tt
units_fail memory d pages first at count sums why.Fault kept out some is =
    record { index = 0; within = some; unit = at + 0; is_on = (get_or sums 0 0, kept 0 some); not_in_memory = out 0 some }

-- a page whose unit is in memory is good, with the bytes there
pub good_copy : (memory : ℕ → Option (List ℕ)) (d : Disk) (pages : PagesByRows) (first unit : ℕ) (bytes : List ℕ) → CanRead memory d pages
    → IsOnUnit pages first unit → memory unit ≡ Some bytes → GivesPages memory d pages first 1 bytes
good_copy memory d pages first unit bytes can on there =
    let long : length bytes ≡ 4096 = can.whole unit bytes there in
    let size : IsUnits 1 bytes = omega (arith, long) in
    let same : unit_at 0 bytes ≡ bytes = unit_at-whole bytes long in
    let page : first + 0 ≡ first = omega arith in
    record {
      size = size;
      good = λ w rows c o is.
          let stands = (is first (unit_with unit on.0)).0 on.1 in
          let good : IsGoodPage w memory (IsHeldAt d) rows c o first bytes = mapped (unit_with unit on.0) stands
          (subst (λ (copy : Option (List ℕ)). MatchOption copy (IsHeldAt d unit bytes × (crc32c bytes ≡ on.0)) (λ b. bytes ≡ b)) (sym there) refl) in
          record {
            size = size;
            each = each_of_one (λ i. IsGoodPage w memory (IsHeldAt d) rows c o (first + i) (unit_at i bytes))
                (subst (λ (p : ℕ). IsGoodPage w memory (IsHeldAt d) rows c o p (unit_at 0 bytes)) (sym page)
                (subst (IsGoodPage w memory (IsHeldAt d) rows c o first) (sym same) good));
          };
    }

-- and its checksum is the first one
pub copy_sums : (memory : ℕ → Option (List ℕ)) (d : Disk) (pages : PagesByRows) (unit : ℕ) (bytes sums : List ℕ) → CanRead memory d pages
    → memory unit ≡ Some bytes → get_or sums 0 0 ≡ crc32c bytes → AreSums 1 bytes sums
copy_sums memory d pages unit bytes sums can there is =
    each_of_one (λ i. get_or sums i 0 ≡ crc32c (unit_at i bytes)) (is ∙ ap crc32c (sym (unit_at-whole bytes (can.whole unit bytes there))))

-- holes are good, with zeros
pub good_holes : (memory : ℕ → Option (List ℕ)) (d : Disk) (pages : PagesByRows) (first count : ℕ) (bytes : List ℕ) → AreHoles pages first count
    → bytes ≡ zeros (4096 * count)
    → GivesPages memory d pages first count bytes
good_holes memory d pages first count bytes are same = subst (GivesPages memory d pages first count) (sym same) (record {
  size = length-zeros (4096 * count);
  good = λ w rows c o is. record {
    size = length-zeros (4096 * count);
    each = λ i lt. hole (λ on at. none_there i lt ((is (first + i) on).1 at)) (unit_at-zeros i (4096 * count) (omega (arith, lt)));
  };
})
  where
    none_there : (i : ℕ) {on : PageUnit} → i < count → unit_found pages (first + i) ≡ Some on → ⊥
    none_there i {on} lt there = let none : unit_found pages (first + i) ≡ None = are i lt in absurd cc

-- ---- failures

-- the first bad page of some is the first of more
bad_of_more : (w : Width) (memory : ℕ → Option (List ℕ)) (d : Disk) (rows : Rows) (c o : List ℕ) (first count n unit kept found : ℕ) → count ≤ n
    → IsFirstBad w memory (IsHeldAt d) rows c o first count unit kept found → IsFirstBad w memory (IsHeldAt d) rows c o first n unit kept found
bad_of_more w memory d rows c o first count n unit kept found le f = record {
  index = f.index;
  within = omega (arith, f.within, le);
  before = f.before;
  good = f.good;
  bad = f.bad;
}

-- a failed read of some pages is one of more
pub fails_of_more : (memory : ℕ → Option (List ℕ)) (d : Disk) (pages : PagesByRows) (first count n : ℕ) (fail : PartFail) → count ≤ n
    → IsPartFail memory d pages first count fail
    → IsPartFail memory d pages first n fail
fails_of_more memory d pages first count n (why.BadPage bad) le is =
    λ w rows c o map. bad_of_more w memory d rows c o first count n bad.unit bad.kept bad.found le (is w rows c o map)
fails_of_more memory d pages first count n why.Memory le is = tt
fails_of_more memory d pages first count n why.Fault le is =
    record { index = is.index; within = omega (arith, is.within, le); unit = is.unit; is_on = is.is_on; not_in_memory = is.not_in_memory }

-- a failed read behind good pages
pub fails_behind : (memory : ℕ → Option (List ℕ)) (d : Disk) (pages : PagesByRows) (first next end : ℕ) (xs : List ℕ) (fail : PartFail)
    → first ≤ next → next ≤ end
    → GivesPages memory d pages first (next - first) xs → IsPartFail memory d pages next (end - next) fail → IsPartFail memory d pages first (end - first) fail
fails_behind memory d pages first next end xs (why.BadPage bad) from below front is =
    λ w rows c o map.
    let same : next ≡ first + (next - first) = omega (arith, from) in
    bad_behind_good w memory (IsHeldAt d) rows c o first (next - first) (end - next) (end - first) bad.unit bad.kept bad.found xs
    (front.good w rows c o map)
    (subst (λ (p : ℕ). IsFirstBad w memory (IsHeldAt d) rows c o p (end - next) bad.unit bad.kept bad.found) same (is w rows c o map))
    (omega (arith, from, below))
fails_behind memory d pages first next end xs why.Memory from below front is = tt
fails_behind memory d pages first next end xs why.Fault from below front is =
    let same : next + is.index ≡ first + ((next - first) + is.index) = omega (arith, from) in
    record {
      index = (next - first) + is.index;
      within = omega (arith, is.within, from, below);
      unit = is.unit;
      is_on = subst (λ (p : ℕ). IsOnUnit pages p is.unit) same is.is_on;
      not_in_memory = is.not_in_memory;
    }

-- ---- runs laid together

-- no page
pub no_pages : (memory : ℕ → Option (List ℕ)) (d : Disk) (pages : PagesByRows) (first n : ℕ) (bytes : List ℕ) → n ≡ 0 → bytes ≡ []
    → GivesPages memory d pages first n bytes
no_pages memory d pages first n bytes none empty = subst (GivesPages memory d pages first n) (sym empty)
    (subst (λ (m : ℕ). GivesPages memory d pages first m []) (sym none)
    (record { size = refl; good = λ w rows c o is. none_good w memory (IsHeldAt d) rows c o first }))

-- one run behind the others
pub more_pages : (memory : ℕ → Option (List ℕ)) (d : Disk) (pages : PagesByRows) (first next count : ℕ) (xs ys both : List ℕ) → first ≤ next
    → both ≡ xs ++ ys
    → GivesPages memory d pages first (next - first) xs → GivesPages memory d pages next count ys → GivesPages memory d pages first (next + count - first) both
more_pages memory d pages first next count xs ys both from is front back =
    let same : next ≡ first + (next - first) = omega (arith, from) in
    let many : (next - first) + count ≡ next + count - first = omega (arith, from) in
    let good = λ (w : Width) (rows : Rows) (c o : List ℕ) (is : FindUnitsOf w rows c o pages).
    subst (λ (n : ℕ). AreGoodPages w memory (IsHeldAt d) rows c o first n (xs ++ ys)) many
    (good_appended w memory (IsHeldAt d) rows c o first (next - first) count xs ys (front.good w rows c o is)
    (subst (λ (p : ℕ). AreGoodPages w memory (IsHeldAt d) rows c o p count ys) same (back.good w rows c o is))) in
    subst (GivesPages memory d pages first (next + count - first)) (sym is) (record { size = both_sizes; good = good })
  where
    both_sizes : IsUnits (next + count - first) (xs ++ ys)
    both_sizes = omega (arith, from, front.size, back.size, length-append xs ys)

-- what holds of an error holds of the result that hands it on
pub handed_on : {T : Type 0} (P : PartFail → Type 0) (result : Result T PartFail) (fail : PartFail)
    → IsErr result × IsErrAnd result (λ e. e ≡ fail) → P fail → IfErr result P
handed_on P (Ok x) fail is holds = tt
handed_on P (Err e) fail is holds = subst P (sym is.1) holds

-- ---- checksums of pages

-- of a page of zeros, by computing
pub sum_of_zeros : 0x98f94189 ≡ crc32c (zeros 4096)
unfolding crc32c zeros after_bits
sum_of_zeros = refl

-- of holes
pub hole_sums : (count : ℕ) (bytes sums : List ℕ) → bytes ≡ zeros (4096 * count) → ((i : ℕ) → i < count → get_or sums i 0 ≡ crc32c (zeros 4096)) → AreSums count bytes sums
hole_sums count bytes sums is are i lt =
    are i lt ∙ ap crc32c (sym (ap (unit_at i) is ∙ unit_at-zeros i (4096 * count) (omega (arith, lt))))

-- one page more has its checksum
pub sums_more : (n : ℕ) (bytes sums : List ℕ) → AreSums n bytes sums → get_or sums n 0 ≡ crc32c (unit_at n bytes) → AreSums (n + 1) bytes sums
sums_more n bytes sums are is = each_and_next (λ i. get_or sums i 0 ≡ crc32c (unit_at i bytes)) n are is
