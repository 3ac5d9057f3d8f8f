-- Which bytes are the key of what.
use Rattle.std.proofs.Common.{◌≡◌, ◌≢◌, ℕ, ◌<◌, List, [], ◌∷◌, ◌++◌, drop, sym, ap, subst, ◌∙◌, arith}
use Rattle.std.specs.List.{AllByRecursion}
use Rattle.unit_fields.specs.Prelude.{IsName, IsCollName}
use Rattle.unit_fields.proofs.CollNames.{no_zero_in_coll}
use Rattle.row_format.proofs.Prelude.{same_head, first_zero}
use Rattle.row_reading.specs.Reading.{part_bytes, IsNoPart, IsNoObject}

positive : (xs : List ℕ) → AllByRecursion (λ b. b ≢ 0) xs → AllByRecursion (λ b. 0 < b) xs
positive [] none = tt
positive (x ∷ xs) none = let here = none.0 in (omega (arith, here), positive xs none.1)

no_zero_inside : (s a x : List ℕ) → AllByRecursion (λ b. b ≢ 0) s → s ≡ a ++ (0 ∷ x) → ⊥
no_zero_inside [] [] x none is = cc
no_zero_inside [] (a ∷ rest) x none is = cc
no_zero_inside (b ∷ bs) [] x none is = none.0 (same_head _ _ _ _ is)
no_zero_inside (b ∷ bs) (a ∷ rest) x none is = no_zero_inside bs rest x none.1 (ap (drop 1) is)

-- ---- the key of an object's row

pub record IsCut (bytes c o rest : List ℕ) : Type 0 where
  pub coll : AllByRecursion (λ b. b ≢ 0) c
  pub object : AllByRecursion (λ b. b ≢ 0) o
  pub spelled : bytes ≡ c ++ (0 ∷ (o ++ (0 ∷ rest)))

pub cut_twice : (bytes c behind o rest : List ℕ) → AllByRecursion (λ b. b ≢ 0) c → AllByRecursion (λ b. b ≢ 0) o
    → bytes ≡ c ++ (0 ∷ behind) → behind ≡ o ++ (0 ∷ rest) → IsCut bytes c o rest
cut_twice bytes c behind o rest coll object first second =
    record { coll = coll; object = object; spelled = first ∙ ap (λ (l : List ℕ). c ++ (0 ∷ l)) second }

-- one cut serves for one key
same_cut : (bytes a b rest c o behind : List ℕ) → IsCut bytes a b rest → IsCollName c → IsName o → bytes ≡ c ++ (0 ∷ (o ++ (0 ∷ behind))) → (a ≡ c) × (b ≡ o) × (rest ≡ behind)
same_cut bytes a b rest c o behind cut coll object is =
    let first = first_zero a c _ _ (positive a cut.coll) (no_zero_in_coll c coll) (sym cut.spelled ∙ is) in
    let second = first_zero b o rest behind (positive b cut.object) object.no_zero first.1 in
    (first.0, second.0, second.1)

pub no_first_zero : (kind : ℕ) (bytes : List ℕ) → AllByRecursion (λ b. b ≢ 0) bytes → IsNoObject kind bytes
no_first_zero kind bytes none c o part s = no_zero_inside bytes c _ none (ap (drop 1) s.spelled)

pub no_second_zero : (kind : ℕ) (bytes a rest : List ℕ) → AllByRecursion (λ b. b ≢ 0) a → bytes ≡ a ++ (0 ∷ rest) → AllByRecursion (λ b. b ≢ 0) rest → IsNoObject kind bytes
no_second_zero kind bytes a rest first is none c o part s =
    let cut = first_zero a c rest (o ++ (0 ∷ part_bytes part)) (positive a first) (no_zero_in_coll c s.fits.0) (sym is ∙ ap (drop 1) s.spelled) in
    no_zero_inside rest o (part_bytes part) none cut.1

module _ (kind : ℕ) (bytes a b rest : List ℕ) (cut : IsCut bytes a b rest) where
  pub no_part : IsNoPart kind rest → IsNoObject kind bytes
  no_part none c o part s = none part (record {
    fits = s.fits.2;
    kind_is = same_head _ _ _ _ s.spelled;
    spelled = (same_cut bytes a b rest c o (part_bytes part) cut s.fits.0 s.fits.1 (ap (drop 1) s.spelled)).2;
  })

  pub no_coll : ¬ (IsCollName a) → IsNoObject kind bytes
  no_coll none c o part s =
      let same = same_cut bytes a b rest c o (part_bytes part) cut s.fits.0 s.fits.1 (ap (drop 1) s.spelled) in
      none (subst IsCollName (sym same.0) s.fits.0)

  pub no_object : ¬ (IsName b) → IsNoObject kind bytes
  no_object none c o part s =
      let same = same_cut bytes a b rest c o (part_bytes part) cut s.fits.0 s.fits.1 (ap (drop 1) s.spelled) in
      none (subst IsName (sym same.1) s.fits.1)
