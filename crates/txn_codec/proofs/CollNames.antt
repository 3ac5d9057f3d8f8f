-- How long a collection's name is.
use Rattle.std.proofs.Common.{ℕ, zero, suc, ◌+◌, ◌/◌, ◌%◌, ◌≤◌, Bool, true, false, cond, ◌==◌, List, [], ◌∷◌, ◌++◌, length, subst, sym, arith, length-append}
use Rattle.std.specs.Fmt.{digits, digits_onto, digit_glyph, decimal}
use Rattle.unit_fields.specs.Prelude.{IsCollName, head_suffix}

-- as many digits as there are steps
digits_onto-most : (k base : ℕ) (upper : Bool) (n : ℕ) (acc : List ℕ) → length (digits_onto k base upper n acc) ≤ k + length acc
digits_onto-most zero base upper n acc = omega arith
digits_onto-most (suc k) base upper n acc =
    let ds = digit_glyph upper (n % base) ∷ acc in
    elim (n / base == 0) as (λ b. length (cond b ds (digits_onto k base upper (n / base) ds)) ≤ suc k + length acc) [
      | true ↦ omega arith
      | false ↦ omega (arith, digits_onto-most k base upper (n / base) ds)
    ]

digits-most : (base : ℕ) (upper : Bool) (n : ℕ) → length (digits base upper n) ≤ 64
unfolding digits
digits-most base upper n = omega (arith, digits_onto-most 64 base upper n [])

-- it fits the byte that its length is written in
pub coll_name-short : (c : List ℕ) → IsCollName c → length c ≤ 255
coll_name-short c is =
    subst (λ (l : List ℕ). length l ≤ 255) (sym is.spelled) (omega (
      arith,
      digits-most 10 false is.pool,
      digits-most 16 false is.seed,
      length-append (decimal is.pool) (0x2e ∷ (digits 16 false is.seed ++ head_suffix)),
      length-append (digits 16 false is.seed) head_suffix,
    ))
