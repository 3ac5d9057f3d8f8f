-- Pages that were read, one run behind another.
use Rattle.std.proofs.Common.{◌≡◌, inl, inr, ℕ, ◌+◌, ◌-◌, ◌*◌, ◌<◌, ◌≤◌, List, [], ◌++◌, length, Option, Some, refl, sym, subst, ◌∙◌, arith, length-append}
use Rattle.std.specs.Prelude.{MatchOption}
use Rattle.std.proofs.lemmas.Bool.{cases_lt}
use Rattle.byte_maps.specs.Units.{unit_at, IsUnits}
use Rattle.byte_maps.proofs.Prelude.{unit_at-append_front, unit_at-append_back}
use Rattle.unit_fields.specs.declared.width.Width.{Width}
use Rattle.crc32c_csum.specs.Prelude.{crc32c}
use Rattle.meta_rows.specs.Prelude.{Rows}
use Rattle.store_image.specs.Prelude.{PageUnit, IsPageOn}
use Rattle.read_facts.specs.Prelude.{IsGoodPage, mapped, IsBadPage, AreGoodPages, IsFirstBad}

-- two runs of units, laid together, are as many units as both
both_units : (n m : ℕ) (xs ys : List ℕ) → IsUnits n xs → IsUnits m ys → IsUnits (n + m) (xs ++ ys)
both_units n m xs ys whole_xs whole_ys = omega (arith, whole_xs, whole_ys, length-append xs ys)

module _ (w : Width) (memory : ℕ → Option (List ℕ)) (held : ℕ → List ℕ → Type 0) (rows : Rows) (c o : List ℕ) where
  -- a page of the run in front
  page_in_front : (first n : ℕ) (xs ys : List ℕ) → AreGoodPages w memory held rows c o first n xs → (i : ℕ) → i < n
      → IsGoodPage w memory held rows c o (first + i) (unit_at i (xs ++ ys))
  page_in_front first n xs ys good i below =
      subst (IsGoodPage w memory held rows c o (first + i)) (sym (unit_at-append_front i xs ys (within n i (length xs) good.size below)))
      (good.each i below)
    where
      within : (n i len : ℕ) → len ≡ 4096 * n → i < n → 4096 * i + 4096 ≤ len
      within n i len is lt = omega arith

  -- a page of the run behind
  page_behind : (first n m : ℕ) (xs ys : List ℕ) → AreGoodPages w memory held rows c o first n xs
      → AreGoodPages w memory held rows c o (first + n) m ys
      → (i : ℕ) → i < n + m → n ≤ i → IsGoodPage w memory held rows c o (first + i) (unit_at i (xs ++ ys))
  page_behind first n m xs ys front back i below from =
      let is : i ≡ n + (i - n) = omega arith in
      let at : (first + n) + (i - n) ≡ first + i = omega arith in
      subst (λ (p : ℕ). IsGoodPage w memory held rows c o p (unit_at i (xs ++ ys))) at
      (subst (IsGoodPage w memory held rows c o ((first + n) + (i - n))) (sym (unit_at-append_back n i (i - n) xs ys front.size is))
      (back.each (i - n) (omega arith)))

  -- good pages, and behind them more good pages
  pub good_appended : (first n m : ℕ) (xs ys : List ℕ) → AreGoodPages w memory held rows c o first n xs
      → AreGoodPages w memory held rows c o (first + n) m ys
      → AreGoodPages w memory held rows c o first (n + m) (xs ++ ys)
  good_appended first n m xs ys front back = record {
    size = both_units n m xs ys front.size back.size;
    each = λ i below. elim (cases_lt i n) [
      | inl lt ↦ page_in_front first n xs ys front i lt
      | inr ge ↦ page_behind first n m xs ys front back i below ge
    ];
  }

  -- a page on a unit in memory is good, with the bytes that are there
  pub good_in_memory : (page : ℕ) (on : PageUnit) (bytes : List ℕ) → IsPageOn w rows c o page on → memory on.unit ≡ Some bytes
      → IsGoodPage w memory held rows c o page bytes
  good_in_memory page on bytes is there =
      mapped on is (subst (λ (copy : Option (List ℕ)). MatchOption copy (held on.unit bytes × (crc32c bytes ≡ on.csum)) (λ b. bytes ≡ b)) (sym there)
      refl)

  -- and it isn't bad
  pub not_bad_in_memory : (page unit kept found : ℕ) (bytes : List ℕ) → memory unit ≡ Some bytes
      → ¬ IsBadPage w memory held rows c o page unit kept found
  not_bad_in_memory page unit kept found bytes there bad = absurd (let same = sym bad.not_in_memory ∙ there in cc)

  -- no pages
  pub none_good : (first : ℕ) → AreGoodPages w memory held rows c o first 0 []
  none_good first = record { size = refl; each = λ i below. absurd (omega (arith, below)) }

  -- a bad page is the first one where those in front of its run are good
  pub bad_behind_good : (first n m count unit kept found : ℕ) (xs : List ℕ) → AreGoodPages w memory held rows c o first n xs
      → IsFirstBad w memory held rows c o (first + n) m unit kept found → n + m ≤ count
      → IsFirstBad w memory held rows c o first count unit kept found
  bad_behind_good first n m count unit kept found xs front f fits = record {
    index = n + f.index;
    within = omega (arith, f.within, fits);
    before = xs ++ f.before;
    good = good_appended first n f.index xs f.before front f.good;
    bad = subst (λ (p : ℕ). IsBadPage w memory held rows c o p unit kept found) (at first n f.index) f.bad;
  }
    where
      at : (a b c : ℕ) → (a + b) + c ≡ a + (b + c)
      at a b c = omega arith
