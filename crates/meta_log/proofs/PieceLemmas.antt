-- The pieces of a record: they lie one before the other, and have each unit once.
use Rattle.std.proofs.Common.{◌≡◌, ℕ, ◌-◌, ◌/◌, ◌<◌, arith}
use Rattle.meta_log.specs.Prelude.{piece_count, given_from, piece_first, LiesInRecord, IsInPiece}

pub lies : (units k : ℕ) → k < piece_count units → LiesInRecord units k
lies units k counted = record {
  some = omega arith;
  most = omega arith;
  within = omega arith;
  begins = omega arith;
  ends = omega arith;
}

-- nothing is given at first
pub given_from-none : (units : ℕ) → given_from units 0 ≡ units
given_from-none units = omega arith

-- and all at last
pub given_from-all : (units : ℕ) → given_from units (piece_count units) ≡ 0
given_from-all units = omega arith

-- the last piece begins with the record
pub piece_first-last : (units : ℕ) → piece_first units (piece_count units - 1) ≡ 0
piece_first-last units = omega arith

pub in_a_piece : (units unit : ℕ) → unit < units → (k : ℕ) × IsInPiece units unit k
in_a_piece units unit below = (piece_count units - 1 - unit / 64, record { counted = omega arith; from = omega arith; to = omega arith })

pub in_one_piece : (units unit k l : ℕ) → IsInPiece units unit k → IsInPiece units unit l → k ≡ l
in_one_piece units unit k l p q = omega (arith, p.counted, p.from, p.to, q.counted, q.from, q.to)
