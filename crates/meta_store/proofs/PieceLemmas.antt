-- The next piece of a checkpoint: where it lies, and what it holds.
use Rattle.std.proofs.Common.{◌≡◌, ℕ, ◌+◌, ◌-◌, ◌*◌, ◌%◌, ◌<◌, ◌≤◌, Bool, true, false, nat_lt, List, [], ◌∷◌, length, Option, Some, ◌^◌, refl, sym, ap, subst, ◌∙◌, if◌then◌else◌, slice_get, append-nil, arith}
use Rattle.std.proofs.lemmas.Bool.{lt-ltb, le-ltb, ltb-true, ltb-false}
use Rattle.std.proofs.Math.Nat.{mul-le-mul_left}
use Rattle.std.specs.Option.{option_map}
use Rattle.byte_maps.specs.Units.{unit_at, zeros}
use Rattle.byte_maps.proofs.UnitLemmas.{unit_at-units_from, unit_at-zeros, length-zeros}
use Rattle.meta_rows.specs.declared.row_op.RowOp.{RowOp}
use Rattle.meta_rows.specs.Prelude.{Rows, row_sets}
use Rattle.meta_log.specs.declared.runs.UnitRun.{UnitRun}
use Rattle.meta_log.specs.Prelude.{Sealed, record_units, records_units, target_unit, unit_count, piece_count, piece_first, piece_units, piece_bytes, units_of_records, one_record, check_records, check_units, TableRecord, AreRunsFrom, other_unit, IsZeroRun}
use Rattle.meta_log.proofs.PieceLemmas.{lies}
use Rattle.meta_log.proofs.SealLemmas.{length-piece_bytes}
use Rattle.meta_log.proofs.RunLemmas.{record_piece, zero_piece}
use Rattle.meta_store.specs.declared.check.OpenCheck.{OpenCheck}
use Rattle.meta_store.specs.declared.store.MetaStore.TheInside.{Inside}
use Rattle.meta_store.specs.Store.{checkpoint_pieces}
use Rattle.meta_store.specs.Checks.{record_left, left_bytes, IsNextCheck, LiesInOtherHalf}
use Rattle.meta_store.specs.StoreInside.{checking_of, meta_of, Holds}
use Rattle.meta_store.proofs.CheckLemmas.{is_left, none_left, same_pieces}
use Rattle.meta_store.proofs.HoldsLemmas.{check_known, check_open}

-- a run of the half with what its units are to hold
pub record HoldsRun (number : ℕ) (rows : Rows) (half : ℕ) (r : UnitRun) (bytes : List ℕ) : Type 0 where
  pub some : 0 < r.count
  pub most : r.count ≤ 64
  pub within : r.first + r.count ≤ half
  pub size : length bytes ≡ 4096 * r.count
  pub units : (j : ℕ) → j < r.count → unit_at j bytes ≡ target_unit (check_units number rows) number (check_records rows) (r.first + j)

unit_by : (number : ℕ) (rows : Rows) (k : ℕ) (b : Bool) → nat_lt k (check_units number rows) ≡ b
    → target_unit (check_units number rows) number (check_records rows) k ≡ (if b then unit_at k (records_units number (check_records rows)) else zeros 4096)
unit_by number rows k b is = ap (λ (c : Bool). if c then unit_at k (records_units number (check_records rows)) else zeros 4096) is

one_spelled : (number : ℕ) (ops : List RowOp) → 0 < units_of_records number (one_record ops)
    → record_units number ops ≡ records_units number (one_record ops)
one_spelled number [] some = absurd (omega (arith, some))
one_spelled number (op ∷ ops) some = sym (append-nil (record_units number (op ∷ ops)))

-- a piece of the record
record_holds : (number : ℕ) (rows : Rows) (half given : ℕ) → check_units number rows ≤ half → given < piece_count (check_units number rows)
    → HoldsRun number rows half (record {
      first = piece_first (check_units number rows) given;
      count = piece_units (check_units number rows) given;
    }) (piece_bytes (record { number = number; ops = row_sets rows }) given)
record_holds number rows half given fits below =
    let u : ℕ = check_units number rows in
    let made : Sealed = record { number = number; ops = row_sets rows } in
    let all : u ≡ unit_count number (row_sets rows) = same_pieces number rows given below in
    let place = lies u given below in
    let counted : given < piece_count (unit_count number (row_sets rows)) = subst (λ n. given < piece_count n) all below in
    record {
      some = place.some;
      most = place.most;
      within = omega (arith, place.within, fits);
      size = length-piece_bytes made given counted ∙ ap (λ n. 4096 * piece_units n given) (sym all);
      units = λ j in_run.
          unit_at-units_from (piece_first (unit_count number (row_sets rows)) given) (piece_units (unit_count number (row_sets rows)) given) j
          (record_units number (row_sets rows)) (subst (λ n. j < piece_units n given) all in_run)
          ∙ ap (λ n. unit_at (piece_first n given + j) (record_units number (row_sets rows))) (sym all)
          ∙ ap (unit_at (piece_first u given + j)) (one_spelled number (row_sets rows) (omega (arith, place.within, place.some)))
          ∙ sym (unit_by number rows (piece_first u given + j) true (lt-ltb (piece_first u given + j) u (omega (arith, place.within, in_run))));
    }

-- zeros behind it
zeros_hold : (number : ℕ) (rows : Rows) (half : ℕ) (r : UnitRun) → IsZeroRun (check_units number rows) half r
    → HoldsRun number rows half r (zeros (4096 * r.count))
zeros_hold number rows half r run = record {
  some = run.some;
  most = run.most;
  within = run.within;
  size = length-zeros (4096 * r.count);
  units = λ j in_run.
      unit_at-zeros j (4096 * r.count) (omega (arith, in_run))
      ∙ sym (unit_by number rows (r.first + j) false (le-ltb (r.first + j) (check_units number rows) (omega (arith, run.behind))));
}

some_same : (x y : UnitRun) → Some x ≡ Some y → x ≡ y
some_same x y is = cc

module _ (number : ℕ) (rows : Rows) (stale : List UnitRun) (half given : ℕ) (r : UnitRun) (left : Option TableRecord) (bytes : List ℕ)
    (fits : check_units number rows ≤ half) (runs : AreRunsFrom 0 half stale) (left_is : left ≡ record_left number rows given)
    (bytes_are : bytes ≡ left_bytes left r.count) (is : slice_get (checkpoint_pieces number rows stale) given ≡ Some r) where
  holds_by : (b : Bool) → nat_lt given (piece_count (check_units number rows)) ≡ b → HoldsRun number rows half r bytes
  holds_by true test =
      let u : ℕ = check_units number rows in
      let below : given < piece_count u = ltb-true given (piece_count u) test in
      let here : UnitRun = record { first = piece_first u given; count = piece_units u given } in
      let same : here ≡ r = some_same here r (sym (record_piece u given stale below) ∙ is) in
      let piece : List ℕ = piece_bytes (record { number = number; ops = row_sets rows }) given in
      let whole : bytes ≡ piece = bytes_are ∙ ap (λ (o : Option TableRecord). left_bytes o r.count) (left_is ∙ is_left number rows given below) in
      subst (λ (x : UnitRun). HoldsRun number rows half x bytes) same
      (subst (HoldsRun number rows half here) (sym whole) (record_holds number rows half given fits below))
  holds_by false test =
      let u : ℕ = check_units number rows in
      let past : piece_count u ≤ given = ltb-false given (piece_count u) test in
      let whole : bytes ≡ zeros (4096 * r.count) =
      bytes_are ∙ ap (λ (o : Option TableRecord). left_bytes o r.count) (left_is ∙ none_left number rows given past) in
      subst (HoldsRun number rows half r) (sym whole) (zeros_hold number rows half r (zero_piece u half given stale r runs past is))

  -- the piece of this number
  pub piece_holds : HoldsRun number rows half r bytes
  piece_holds = holds_by (nat_lt given (piece_count (check_units number rows))) refl

-- ---- in a store

module _ (a : Inside) (c : OpenCheck) (r : UnitRun) (bytes : List ℕ) (holds : Holds a) (is : a.check ≡ Some c)
    (next : slice_get c.pieces.items c.given ≡ Some r) (bytes_are : bytes ≡ left_bytes c.left r.count) where
  is_next : slice_get (checkpoint_pieces a.number a.rows.rows a.stale.items) c.given ≡ Some r
  is_next = subst (λ (l : List UnitRun). slice_get l c.given ≡ Some r) (check_open a c holds is).pieces next

  pub next_run : HoldsRun a.number a.rows.rows a.sup.half r bytes
  next_run =
      piece_holds a.number a.rows.rows a.stale.items a.sup.half c.given r c.left bytes (check_known a c holds is).fits holds.known.stale_fits
      (check_open a c holds is).left bytes_are is_next

  pub next_check_is : (unit : ℕ) → unit ≡ other_unit a.sup + r.first → IsNextCheck (meta_of a) unit bytes
  next_check_is unit unit_is = record {
    now = checking_of c;
    is_open = ap (option_map checking_of) is;
    run = r;
    is_next = is_next;
    unit_is = unit_is;
    size = next_run.size;
    bytes_are = next_run.units;
  }

other_half_in_log : (half epoch : ℕ) → half * (1 - epoch % 2) ≤ half
other_half_in_log half epoch = omega (arith, mul-le-mul_left {m = 1 - epoch % 2} {n = 1} half (omega arith))

-- the unit where it goes has a number
pub other_below : (a : Inside) (r : UnitRun) (bytes : List ℕ) (other : ℕ) → Holds a → HoldsRun a.number a.rows.rows a.sup.half r bytes
    → other ≡ other_unit a.sup → other + r.first < 2 ^ 32
other_below a r bytes other holds run is =
    omega (arith, is, run.within, holds.known.limits.half_most, other_half_in_log a.sup.half a.sup.epoch)

-- it lies in the other half
pub next_lies : (a : Inside) (r : UnitRun) (unit : ℕ) (bytes : List ℕ) → HoldsRun a.number a.rows.rows a.sup.half r bytes
    → unit ≡ other_unit a.sup + r.first → LiesInOtherHalf (meta_of a) unit bytes
next_lies a r unit bytes run unit_is =
    let in_half : 4096 * unit + length bytes ≤ 4096 * (other_unit a.sup + a.sup.half) = omega (arith, run.size, unit_is, run.within) in
    record {
      some = omega (arith, run.size, run.some);
      few = omega (arith, run.size, run.most);
      whole = omega (arith, run.size);
      from = omega (arith, unit_is);
      in_half = in_half;
      in_log = omega (arith, in_half, other_half_in_log a.sup.half a.sup.epoch);
    }
