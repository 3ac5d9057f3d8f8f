-- The number of pages that name a slot is one number.
use Rattle.std.proofs.Common.{◌≡◌, ℕ, zero, suc, ◌<◌, ◌≤◌, List, [], ◌∷◌, length, refl, sym, subst, arith}
use Rattle.std.specs.Prelude.{Contains, remove}
use Rattle.std.proofs.lemmas.List.Sorted.{IsPermutation-remove, Contains-permutation, length_permutation}
use Rattle.unit_fields.specs.declared.width.Width.{Width}
use Rattle.meta_rows.specs.Prelude.{Rows}
use Rattle.store_image.specs.Prelude.{PageName, EachOnce, IsCounted}

in_rest : (p q : PageName) (b : List PageName) → ¬ (p ≡ q) → Contains (p ∷ b) q → Contains b q
in_rest p q b apart (zero, lt, is) = absurd (apart is)
in_rest p q b apart (suc k, lt, is) = (k, omega (arith, lt), is)

behind : (p q : PageName) (ps : List PageName) → Contains ps q → Contains (p ∷ ps) q
behind p q ps (k, lt, is) = (suc k, omega (arith, lt), is)

pub not_more : (a b : List PageName) → EachOnce a → ((p : PageName) → Contains a p → Contains b p) → length a ≤ length b
not_more [] b apart inside = omega arith
not_more (p ∷ ps) b apart inside =
    let there = inside p (zero, omega arith, refl) in
    let moved = IsPermutation-remove b there.0 p there.1 (sym there.2) in
    let rest = not_more ps (remove b there.0) apart.1 (λ q has. in_rest p q (remove b there.0)
    (λ e. apart.0 (subst (Contains ps) (sym e) has)) (Contains-permutation b (p ∷ remove b there.0) q moved (inside q (behind p q ps has)))) in
    omega (arith, rest, length_permutation _ _ moved)

pub one_count : (w : Width) (rows : Rows) (sbid index n m : ℕ) → IsCounted w rows sbid index n → IsCounted w rows sbid index m → n ≡ m
one_count w rows sbid index n m a b =
    let there = not_more a.pages b.pages a.namers.once (λ p has. (b.namers.each p).1 ((a.namers.each p).0 has)) in
    let back = not_more b.pages a.pages b.namers.once (λ p has. (a.namers.each p).1 ((b.namers.each p).0 has)) in
    omega (arith, there, back, a.count_is, b.count_is)

-- where there is one there are some
pub some_page : (ps : List PageName) (p : PageName) → Contains ps p → 0 < length ps
some_page ps p has = omega (arith, has.1)

pub some_namer : (ps : List PageName) → 0 < length ps → (p : PageName) × Contains ps p
some_namer [] some = absurd (omega (arith, some))
some_namer (p ∷ ps) some = (p, (zero, omega arith, refl))
