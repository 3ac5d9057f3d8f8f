-- Ranges of an object, and its checksum.
use Rattle.std.proofs.Common.{◌≡◌, ℕ, zero, suc, ◌+◌, ◌-◌, ◌*◌, ◌/◌, ◌%◌, ◌<◌, ◌≤◌, Bool, true, false, cond, List, [], ◌++◌, length, take, drop, take-add, take-append-drop, get_or, Option, refl, sym, ap, subst, ◌∙◌, arith}
use Rattle.std.specs.Prelude.{nat_lt, bit_xor, min}
use Rattle.std.proofs.lemmas.Bool.{ltb-true, ltb-false}
use Rattle.std.proofs.lemmas.List.{take_all, length-take}
use Rattle.std.proofs.Math.Seq.{take-append-add}
use Rattle.byte_maps.specs.Units.{unit_at, IsUnits}
use Rattle.byte_maps.proofs.Prelude.{length-unit_at, piece_of_front}
use Rattle.crc32c_csum.specs.Prelude.{crc32c, remainder, all_ones}
use Rattle.crc32c_csum.proofs.Linear.{remainder-append}
use Rattle.block_device.specs.Prelude.{Disk}
use Rattle.store_image.specs.Prelude.{pages_of}
use Rattle.read_facts.specs.Prelude.{read_end, pages_read}
use Rattle.page_sources.specs.declared.parts.PartFail.{PartFail}
use Rattle.page_sources.specs.Prelude.{PagesByRows, AreSums, GivesPages, IsPartFail}
use Rattle.page_sources.proofs.PartLemmas.{no_pages, more_pages, fails_behind}
use Rattle.object_reader.specs.Ranges.{GivesRange, IsDigestOf, GivesSum}

-- how many pages a range must read: none where it ends where it begins or before
pub no_page_read : (size off len : ℕ) → read_end size off len ≤ off → pages_read size off len ≡ 0
no_page_read size off len le = by (nat_lt off (read_end size off len)) refl
  where
    by : (b : Bool) → nat_lt off (read_end size off len) ≡ b → cond b (pages_of (read_end size off len) - off / 4096) 0 ≡ 0
    by true is = absurd (omega (arith, le, ltb-true off (read_end size off len) is))
    by false is = refl

pub some_page_read : (size off len : ℕ) → off < read_end size off len → pages_read size off len ≡ pages_of (read_end size off len) - off / 4096
some_page_read size off len lt = by (nat_lt off (read_end size off len)) refl
  where
    by : (b : Bool) → nat_lt off (read_end size off len) ≡ b
        → cond b (pages_of (read_end size off len) - off / 4096) 0 ≡ pages_of (read_end size off len) - off / 4096
    by true is = refl
    by false is = absurd (omega (arith, lt, ltb-false off (read_end size off len) is))

-- an empty range
pub empty_range : (memory : ℕ → Option (List ℕ)) (d : Disk) (pages : PagesByRows) (size off len end : ℕ) (bytes : List ℕ)
    → end ≡ read_end size off len → end ≤ off → bytes ≡ []
    → GivesRange memory d pages size off len bytes
empty_range memory d pages size off len end bytes is le none =
    let gone : read_end size off len - off ≡ 0 = omega (arith, is, le) in
    record {
      whole = [];
      good = no_pages memory d pages (off / 4096) (pages_read size off len) [] (no_page_read size off len (omega (arith, is, le))) refl;
      cut = none ∙ sym (ap (λ n. take n (drop (off % 4096) [])) gone);
    }

-- a range with bytes, from the pages that it must read
pub cut_range : (memory : ℕ → Option (List ℕ)) (d : Disk) (pages : PagesByRows) (size off len end first behind : ℕ) (whole bytes : List ℕ)
    → end ≡ read_end size off len → off < end
    → first ≡ off / 4096 → behind ≡ pages_of end → GivesPages memory d pages first (behind - first) whole
    → bytes ≡ take (end - off) (drop (off % 4096) whole) → GivesRange memory d pages size off len bytes
cut_range memory d pages size off len end first behind whole bytes is lt from to good cut =
    let many : behind - first ≡ pages_read size off len =
    ap (λ n. n - first) (to ∙ ap pages_of is) ∙ ap (λ n. pages_of (read_end size off len) - n) from
    ∙ sym (some_page_read size off len (omega (arith, is, lt))) in
    record {
      whole = whole;
      good = subst (λ (n : ℕ). GivesPages memory d pages (off / 4096) n whole) many
          (subst (λ (p : ℕ). GivesPages memory d pages p (behind - first) whole) from good);
      cut = cut ∙ ap (λ n. take (n - off) (drop (off % 4096) whole)) is;
    }

-- the pages of a range with bytes hold it
pub range_fits : (off end first behind : ℕ) (size : ℕ) → off < end → first ≡ off / 4096 → behind ≡ pages_of end → size ≡ 4096 * (behind - first)
    → off % 4096 + (end - off) ≤ size
range_fits off end first behind size lt from to is = omega (arith, lt, from, to, is)

-- ---- the checksum

-- of no page
pub digest_of_none : (memory : ℕ → Option (List ℕ)) (d : Disk) (pages : PagesByRows) (size : ℕ) → IsDigestOf memory d pages size 0 all_ones
digest_of_none memory d pages size = record {
  whole = [];
  good = no_pages memory d pages 0 0 [] refl refl;
  remains = sym
      (ap (remainder all_ones) (take_all size [] (omega arith)));
}

-- of one run more
pub digest_of_more : (memory : ℕ → Option (List ℕ)) (d : Disk) (pages : PagesByRows) (size next count digest : ℕ) (part front : List ℕ)
    → 4096 * next ≤ size
    → front ≡ take (size - 4096 * next) part → IsDigestOf memory d pages size next digest → GivesPages memory d pages next count part
    → IsDigestOf memory d pages size (next + count) (remainder digest front)
digest_of_more memory d pages size next count digest part front fits is so_far more =
    let held : length so_far.whole ≡ 4096 * next = so_far.good.size in
    let all : take size so_far.whole ≡ so_far.whole = take_all size so_far.whole (omega (arith, held, fits)) in
    let left : length so_far.whole + (size - 4096 * next) ≡ size = omega (arith, held, fits) in
    let both : take size (so_far.whole ++ part) ≡ so_far.whole ++ front =
    ap (λ n. take n (so_far.whole ++ part)) (sym left) ∙ take-append-add so_far.whole part (size - 4096 * next)
    ∙ ap (λ l. so_far.whole ++ l) (sym is) in
    let from_0 : next ≡ next - 0 = omega arith in
    let many : next + count - 0 ≡ next + count = omega arith in
    let before : digest ≡ remainder all_ones so_far.whole = so_far.remains ∙ ap (remainder all_ones) all in
    record {
      whole = so_far.whole ++ part;
      good = subst (λ (n : ℕ). GivesPages memory d pages 0 n (so_far.whole ++ part)) many
          (more_pages memory d pages 0 next count so_far.whole part _ (omega arith) refl
          (subst (λ (n : ℕ). GivesPages memory d pages 0 n so_far.whole) from_0 so_far.good) more);
      remains = ap (λ r. remainder r front) before ∙ sym (remainder-append so_far.whole front all_ones) ∙ ap (remainder all_ones) (sym both);
    }

-- the checksums of the whole pages at the front of a part
pub sums_of_front : (count left : ℕ) (part front sums : List ℕ) → front ≡ take left part → IsUnits count part → AreSums count part sums
    → AreSums (length front / 4096) front sums
unfolding unit_at
sums_of_front count left part front sums is size are i lt =
    let long : length front ≡ min left (length part) = ap (λ l. length l) is ∙ length-take left part in
    let most : length front ≤ left = omega (arith, long) in
    let fits : length front ≤ length part = omega (arith, long) in
    are i (omega (arith, lt, fits, size))
    ∙ ap crc32c (sym (ap (unit_at i) is ∙ piece_of_front (4096 * i) 4096 left part (omega (arith, lt, most))))

-- one whole page more is taken in by its checksum
pub page_in : (i start digest new : ℕ) (front sums : List ℕ) → digest ≡ remainder start (take (4096 * i) front)
    → ((page : List ℕ) → length page ≡ 4096 → get_or sums i 0 ≡ crc32c page → new ≡ remainder digest page) → AreSums (length front / 4096) front sums → i < length front / 4096
    → new ≡ remainder start (take (4096 * (i + 1)) front)
unfolding unit_at
page_in i start digest new front sums before taken are lt =
    let whole : 4096 * i + 4096 ≤ length front = omega (arith, lt) in
    taken (unit_at i front) (length-unit_at i front whole) (are i lt)
    ∙ ap (λ r. remainder r (unit_at i front)) before
    ∙ sym (remainder-append (take (4096 * i) front) (unit_at i front) start)
    ∙ ap (remainder start) (sym (take-add (4096 * i) 4096 front))
    ∙ ap (λ n. remainder start (take n front)) (omega arith)

-- the pages of a whole object
end_of_all : (size : ℕ) → read_end size 0 size ≡ size
end_of_all size = omega arith

end_less_none : (size : ℕ) → read_end size 0 size - 0 ≡ size
end_less_none size = omega arith

less_none : (n : ℕ) → n - 0 / 4096 ≡ n
less_none n = omega arith

pages_of_all : (size : ℕ) → pages_read size 0 size ≡ pages_of size
pages_of_all zero = refl
pages_of_all (suc n) = some_page_read (suc n) 0 (suc n) (omega arith) ∙ ap (λ m. pages_of m - 0 / 4096) (end_of_all (suc n)) ∙ less_none
    (pages_of (suc n))

pub no_more_pages : (size : ℕ) → pages_of size ≡ pages_read size 0 size
no_more_pages size = sym (pages_of_all size)

-- of all pages of an object
pub sum_of_all : (memory : ℕ → Option (List ℕ)) (d : Disk) (pages : PagesByRows) (size count digest crc : ℕ) → count ≡ pages_of size
    → crc ≡ bit_xor digest all_ones
    → IsDigestOf memory d pages size count digest → GivesSum memory d pages size crc
unfolding crc32c
sum_of_all memory d pages size count digest crc is sum all = record {
  bytes = take size all.whole;
  gives = record {
    whole = all.whole;
    good = subst (λ (n : ℕ). GivesPages memory d pages 0 n all.whole) (is ∙ no_more_pages size) all.good;
    cut = ap (λ n. take n all.whole) (sym (end_less_none size));
  };
  is = sum ∙ ap (λ r. bit_xor r all_ones) all.remains;
}

-- a bad page behind those that were taken in
pub sum_fails_behind : (memory : ℕ → Option (List ℕ)) (d : Disk) (pages : PagesByRows) (size next end digest : ℕ) (fail : PartFail)
    → end ≡ pages_of size → next ≤ end
    → IsDigestOf memory d pages size next digest → IsPartFail memory d pages next (end - next) fail → IsPartFail memory d pages 0 (pages_read size 0 size) fail
sum_fails_behind memory d pages size next end digest fail is below so_far fails =
    let from_0 : next ≡ next - 0 = omega arith in
    let many : end - 0 ≡ pages_read size 0 size = sym from_end ∙ is ∙ no_more_pages size in
    subst (λ (n : ℕ). IsPartFail memory d pages 0 n fail) many
    (fails_behind memory d pages 0 next end so_far.whole fail (omega arith) below
    (subst (λ (n : ℕ). GivesPages memory d pages 0 n so_far.whole) from_0 so_far.good) fails)
  where
    from_end : end ≡ end - 0
    from_end = omega arith

-- the bytes behind the front, taken in behind it
pub rest_in : (n start : ℕ) (bytes : List ℕ) → remainder (remainder start (take n bytes)) (drop n bytes) ≡ remainder start bytes
rest_in n start bytes = sym (remainder-append (take n bytes) (drop n bytes) start) ∙ ap (remainder start) (take-append-drop n bytes)
