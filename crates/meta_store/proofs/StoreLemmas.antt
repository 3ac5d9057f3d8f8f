-- The next piece of the record that a store writes, and what is known of it once it was given.
use Rattle.std.proofs.Common.{◌≡◌, ℕ, ◌+◌, ◌*◌, ◌%◌, ◌<◌, ◌≤◌, List, length, Option, Some, None, ap, subst, sym, ◌∙◌, arith}
use Rattle.std.specs.Prelude.{IfSome, MatchOption}
use Rattle.std.proofs.Math.Nat.{mul-le-mul_left}
use Rattle.std.specs.Option.{option_map}
use Rattle.meta_log.specs.Prelude.{unit_count, piece_count, piece_first, piece_units, sealed_units, piece_bytes, active_unit}
use Rattle.meta_log.proofs.PieceLemmas.{lies}
use Rattle.meta_log.proofs.SealLemmas.{length-piece_bytes}
use Rattle.meta_store.specs.declared.store.BegunRecord.{BegunRecord}
use Rattle.meta_store.specs.declared.store.MetaStore.TheInside.{Inside}
use Rattle.meta_store.specs.Store.{Begun, Meta, IsMeta, IsBegun, IsNextPiece, LiesBehindTail, IsPieceLeft, IsPieceOut, with_given}
use Rattle.meta_store.specs.StoreInside.{begun_of, meta_of}

pub next_of_held : (a : Inside) (b : BegunRecord) (first unit : ℕ) (bytes : List ℕ) → a.begun ≡ Some b → b.sealed.number ≡ a.number
    → b.given < piece_count (sealed_units b.sealed) → first ≡ piece_first (sealed_units b.sealed) b.given → bytes ≡ piece_bytes b.sealed b.given
    → unit ≡ active_unit a.sup + a.tail + first → IsNextPiece (meta_of a) unit bytes
next_of_held a b first unit bytes is_begun next left first_is bytes_are unit_is = record {
  now = begun_of b;
  is_begun = ap (option_map begun_of) is_begun;
  left = subst (λ n. b.given < piece_count (unit_count n b.sealed.ops)) next left;
  unit_is = unit_is ∙ ap (λ f. active_unit a.sup + a.tail + f) (first_is ∙ ap (λ n. piece_first (unit_count n b.sealed.ops) b.given) next);
  bytes_are = bytes_are ∙ ap (λ n. piece_bytes (record { number = n; ops = b.sealed.ops }) b.given) next;
}

left_in : (number : ℕ) (o : Option Begun) (b : Begun) → o ≡ Some b → b.given < piece_count (unit_count number b.ops)
    → MatchOption o ⊥ (λ x. x.given < piece_count (unit_count number x.ops))
left_in number o b is left = subst (λ (p : Option Begun). MatchOption p ⊥ (λ x. x.given < piece_count (unit_count number x.ops))) (sym is) left

-- where there is a next piece, one is left
pub left_of_next : (m : Meta) (unit : ℕ) (bytes : List ℕ) → IsNextPiece m unit bytes → IsPieceLeft m
left_of_next m unit bytes next = left_in m.number m.begun next.now next.is_begun next.left

out_in : (half tail number : ℕ) (o : Option Begun) → IfSome o (IsBegun half tail number)
    → MatchOption o ⊥ (λ b. b.given < piece_count (unit_count number b.ops))
    → MatchOption (option_map (λ (b : Begun). record b { given = b.given + 1 }) o) ⊥ (λ b. b.written < b.given)
out_in half tail number None known left = left
out_in half tail number (Some b) known left = omega (arith, known.written_most)

-- a piece that was just given is not written yet
pub out_of_given : (m : Meta) → IsMeta m → IsPieceLeft m → IsPieceOut (with_given m)
out_of_given m known left = out_in m.sup.half m.tail m.number m.begun known.begun_fits left

half_in_log : (half epoch : ℕ) → half * (epoch % 2) ≤ half
half_in_log half epoch = omega (arith, mul-le-mul_left {m = epoch % 2} {n = 1} half (omega arith))

-- the next piece lies behind the tail, and ends in the active half
pub lies_behind : (m : Meta) (unit : ℕ) (bytes : List ℕ) → IsMeta m → IsNextPiece m unit bytes → LiesBehindTail m unit bytes
lies_behind m unit bytes known next =
    let b = next.now in
    let begun : IsBegun m.sup.half m.tail m.number b = subst (λ (o : Option Begun). IfSome o (IsBegun m.sup.half m.tail m.number)) next.is_begun
    known.begun_fits in
    let piece = lies (unit_count m.number b.ops) b.given next.left in
    let size : length bytes ≡ 4096 * piece_units (unit_count m.number b.ops) b.given =
    ap length next.bytes_are ∙ length-piece_bytes (record { number = m.number; ops = b.ops }) b.given next.left
    in
    let in_half : 4096 * unit + length bytes ≤ 4096 * (active_unit m.sup + m.sup.half) = omega (arith, size, next.unit_is, piece.within, begun.fits) in
    record {
      some = omega (arith, size, piece.some);
      few = omega (arith, size, piece.most);
      whole = omega (arith, size);
      behind = omega (arith, next.unit_is);
      in_half = in_half;
      in_log = omega (arith, in_half, half_in_log m.sup.half m.sup.epoch);
    }
