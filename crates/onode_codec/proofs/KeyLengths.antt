-- How long keys are.
use Rattle.std.proofs.Common.{ℕ, zero, suc, ◌+◌, ◌/◌, ◌%◌, ◌≤◌, Bool, true, false, cond, ◌==◌, List, [], ◌∷◌, ◌++◌, length, subst, sym, arith, length-append}
use Rattle.std.specs.Fmt.{digits, digits_onto, digit_glyph, decimal}
use Rattle.meta_rows.specs.Prelude.{IsKey}
use Rattle.unit_fields.specs.Prelude.{IsName, IsCollName, head_suffix}
use Rattle.row_format.specs.Prelude.{object_key}

-- as many digits as there are steps
digits_onto-most : (k base : ℕ) (upper : Bool) (n : ℕ) (acc : List ℕ) → length (digits_onto k base upper n acc) ≤ k + length acc
digits_onto-most zero base upper n acc = omega arith
digits_onto-most (suc k) base upper n acc =
    let ds = digit_glyph upper (n % base) ∷ acc in
    elim (n / base == 0) as (λ b. length (cond b ds (digits_onto k base upper (n / base) ds)) ≤ suc k + length acc) [
      | true ↦ omega arith
      | false ↦ omega (arith, digits_onto-most k base upper (n / base) ds)
    ]

digits-most : (base : ℕ) (upper : Bool) (n : ℕ) → length (digits base upper n) ≤ 64
unfolding digits
digits-most base upper n = omega (arith, digits_onto-most 64 base upper n [])

-- a collection's name is far shorter than a key may be
pub coll_name-most : (c : List ℕ) → IsCollName c → length c ≤ 134
coll_name-most c is =
    subst (λ (l : List ℕ). length l ≤ 134) (sym is.spelled) (omega (
      arith,
      digits-most 10 false is.pool,
      digits-most 16 false is.seed,
      length-append (decimal is.pool) (0x2e ∷ (digits 16 false is.seed ++ head_suffix)),
      length-append (digits 16 false is.seed) head_suffix,
    ))

pub coll_key-size : (c : List ℕ) → IsCollName c → IsKey (0x43 ∷ c)
coll_key-size c is = record { some = omega arith; short = omega (arith, coll_name-most c is) }

pub object_key-size : (kind : ℕ) (c o rest : List ℕ) → IsCollName c → IsName o → length rest ≤ 256 → IsKey (object_key kind c o rest)
object_key-size kind c o rest c_name o_name few = record {
  some = omega arith;
  short = omega (arith, coll_name-most c c_name, o_name.short, length-append c (0 ∷ (o ++ 0 ∷ rest)), length-append o (0 ∷ rest));
}
