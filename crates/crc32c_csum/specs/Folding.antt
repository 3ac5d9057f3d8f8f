-- The remainder of a page by folding. In the powers of one byte y the polynomial has the multiple
-- y^290 + y^136 + y^113 + y^107 + y^32 + 1. So a byte may be taken out if it is put, by exclusive or, on the bytes
-- 154, 177, 183, 258 and 290 places on. The bytes that were taken out stand in a list of their own, 290 places further on than
-- in the page, so that the place t of the page looks at the places t + 136, t + 113, t + 107, t + 32 and t there.
use Rattle.std.specs.Prelude.{ℕ, ◌+◌, List, take, drop, bit_xor}
use Rattle.std.specs.Simd.Lanes.{zip2}
use Rattle.crc32c_csum.specs.Crc32c.{remainder}
use Rattle.crc32c_csum.specs.Steps.{after_zeros}

-- the multiple, times a remainder: it is always zero
unfoldable pub multiple : ℕ → ℕ
multiple r =
    bit_xor (after_zeros 290 r) (bit_xor (after_zeros 136 r) (bit_xor (after_zeros 113 r) (bit_xor (after_zeros 107 r) (bit_xor (after_zeros 32 r) r))))

-- sixteen bytes from a place on
abbrev pub sixteen : ℕ → List ℕ → List ℕ
sixteen place bytes = take 16 (drop place bytes)

-- what was put on sixteen bytes of the page
abbrev pub put_on : ℕ → List ℕ → List ℕ
put_on t taken =
    zip2 bit_xor (sixteen (t + 136) taken) (zip2 bit_xor (sixteen (t + 113) taken)
    (zip2 bit_xor (sixteen (t + 107) taken) (zip2 bit_xor (sixteen (t + 32) taken) (sixteen t taken))))

-- the remainder of the first bytes alone
abbrev pub of_first : ℕ → List ℕ → ℕ
of_first n bytes = remainder 0 (take n bytes)

-- the remainder of all that was put on the page before a place
abbrev pub of_put_on : ℕ → List ℕ → ℕ
of_put_on t taken =
    bit_xor (of_first (t + 136) taken) (bit_xor (of_first (t + 113) taken)
    (bit_xor (of_first (t + 107) taken) (bit_xor (of_first (t + 32) taken) (of_first t taken))))

-- the remainder of the page's bytes before a place, from those that were taken out of them
abbrev pub of_taken : ℕ → List ℕ → ℕ
of_taken t taken = bit_xor (of_first (t + 290) taken) (of_put_on t taken)
