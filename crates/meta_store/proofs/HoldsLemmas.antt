-- A store's fields hold what is known of them, whatever call was made.
use Rattle.std.proofs.Common.{◌≡◌, ℕ, zero, suc, ◌+◌, ◌<◌, ◌≤◌, min, List, length, Option, Some, None, IfSome, OnSome, MatchOption, refl, sym, ap, subst, ◌∙◌, Bool, false, is_some, Vec, Global, arith}
use Rattle.std.specs.Option.{option_map}
use Rattle.meta_rows.specs.Table.{RowsWithRoom}
use Rattle.meta_rows.specs.Prelude.{rows_after, row_sets, RowsFit}
use Rattle.meta_rows.proofs.FitLemmas.{fit_still}
use Rattle.meta_log.specs.declared.slot.Super.{Super}
use Rattle.meta_log.specs.declared.runs.UnitRun.{UnitRun}
use Rattle.meta_log.specs.Prelude.{Sealed, unit_count, sealed_units, piece_count, IsSealable, IsSuper, next_super, TableRecord, check_units, check_records, front_run, AreRunsFrom}
use Rattle.meta_store.specs.declared.check.OpenCheck.{OpenCheck}
use Rattle.meta_store.specs.declared.store.BegunRecord.{BegunRecord}
use Rattle.meta_store.specs.declared.store.MetaStore.TheInside.{Inside}
use Rattle.meta_store.specs.Store.{Begun, Checking, Meta, IsBegun, IsChecking, IsPieceLeft, IsPieceOut, checkpoint_pieces}
use Rattle.meta_store.specs.Checks.{record_left, IsCheckLeft, IsCheckOut, IsLeftThen, switched_log}
use Rattle.meta_store.specs.StoreInside.{begun_of, checking_of, meta_of, IsHeld, IsOpen, Holds}
use Rattle.meta_store.proofs.CheckLemmas.{rows_sealable, record_count}

-- ---- a record or a checkpoint

pub none_open : (o : Option OpenCheck) (b : Bool) → b ≡ is_some o → b ≡ false → o ≡ None
none_open None b is none = refl
none_open (Some c) b is none = cc

pub none_checked : (o : Option OpenCheck) → option_map checking_of o ≡ None → o ≡ None
none_checked None is = refl
none_checked (Some c) is = cc

none_begun : (o : Option BegunRecord) → option_map begun_of o ≡ None → o ≡ None
none_begun None is = refl
none_begun (Some b) is = cc

alone_none : (o : Option Begun) (c : Checking) → OnSome o (Some c ≡ None) → o ≡ None
alone_none None c alone = refl
alone_none (Some b) c alone = cc

-- while a record is written no checkpoint is
no_check : (a : Inside) (b : BegunRecord) → Holds a → a.begun ≡ Some b → a.check ≡ None
no_check a b holds is =
    none_checked a.check (subst (λ (o : Option BegunRecord). OnSome (option_map begun_of o) (option_map checking_of a.check ≡ None)) is holds.known.alone)

begun_known : (a : Inside) (b : BegunRecord) → Holds a → a.begun ≡ Some b → IsBegun a.sup.half a.tail a.number (begun_of b)
begun_known a b holds is =
    subst (λ (o : Option BegunRecord). IfSome (option_map begun_of o) (IsBegun a.sup.half a.tail a.number)) is holds.known.begun_fits

begun_held : (a : Inside) (b : BegunRecord) → Holds a → a.begun ≡ Some b → IsHeld a.number a.rows.room b
begun_held a b holds is = subst (λ (o : Option BegunRecord). IfSome o (IsHeld a.number a.rows.room)) is holds.held

-- the record goes on
goes_on : (a : Inside) (b : BegunRecord) (given written : ℕ) → Holds a → a.begun ≡ Some b → given ≤ piece_count (unit_count a.number b.sealed.ops)
    → written ≤ given → Holds (record a { begun = Some (record b { given = given; written = written }) })
goes_on a b given written holds is given_most written_most =
    let begun = begun_known a b holds is in
    let held = begun_held a b holds is in
    record {
      known = record {
        limits = holds.known.limits;
        rows_fit = holds.known.rows_fit;
        tail_most = holds.known.tail_most;
        begun_fits = record { sealable = begun.sealable; fits = begun.fits; given_most = given_most; written_most = written_most };
        stale_fits = holds.known.stale_fits;
        check_fits = holds.known.check_fits;
        alone = ap (option_map checking_of) (no_check a b holds is);
      };
      held = record { next = held.next; room_made = held.room_made };
      open_is = holds.open_is;
    }

pub given_on : (a : Inside) (b : BegunRecord) → Holds a → a.begun ≡ Some b → IsPieceLeft (meta_of a)
    → Holds (record a { begun = Some (record b { given = b.given + 1 }) })
given_on a b holds is left =
    let below : b.given < piece_count (unit_count a.number b.sealed.ops) = subst (λ (o : Option BegunRecord).
    MatchOption (option_map begun_of o) ⊥ (λ x. x.given < piece_count (unit_count a.number x.ops))
    ) is left in
    goes_on a b (b.given + 1) b.written holds is (omega (arith, below)) (omega (arith, (begun_known a b holds is).written_most))

pub written_on : (a : Inside) (b : BegunRecord) → Holds a → a.begun ≡ Some b → IsPieceOut (meta_of a)
    → Holds (record a { begun = Some (record b { written = b.written + 1 }) })
written_on a b holds is out =
    let below : b.written < b.given = subst (λ (o : Option BegunRecord). MatchOption (option_map begun_of o) ⊥ (λ x. x.written < x.given)) is out in
    goes_on a b b.given (b.written + 1) holds is (begun_known a b holds is).given_most (omega (arith, below))

-- a record begins, by room for its operations
pub record_begun : (a : Inside) (rows : RowsWithRoom) (sealed : Sealed) → Holds a → a.check ≡ None → rows.rows ≡ a.rows.rows
    → length sealed.ops ≤ rows.room → sealed.number ≡ a.number → IsSealable sealed.number sealed.ops → a.tail + sealed_units sealed ≤ a.sup.half
    → Holds (record a { rows = rows; begun = Some (record { sealed = sealed; given = 0; written = 0 }) })
record_begun a rows sealed holds none same room next sealable fits = record {
  known = record {
    limits = holds.known.limits;
    rows_fit = subst RowsFit (sym same) holds.known.rows_fit;
    tail_most = holds.known.tail_most;
    begun_fits = record {
      sealable = subst (λ n. IsSealable n sealed.ops) next sealable;
      fits = subst (λ n. a.tail + unit_count n sealed.ops ≤ a.sup.half) next fits;
      given_most = omega arith;
      written_most = omega arith;
    };
    stale_fits = holds.known.stale_fits;
    check_fits = subst (λ (o : Option OpenCheck). IfSome (option_map checking_of o) (IsChecking a.sup a.number rows.rows a.stale.items)) (sym none) tt;
    alone = ap (option_map checking_of) none;
  };
  held = record { next = next; room_made = room };
  open_is = subst (λ (o : Option OpenCheck). IfSome o (IsOpen a.number rows.rows a.tail a.stale.items)) (sym none) tt;
}

-- a record is stable, and its operations are applied
pub record_done : (a : Inside) (b : BegunRecord) (rows : RowsWithRoom) (tail : ℕ) → Holds a → a.begun ≡ Some b
    → rows.rows ≡ rows_after a.rows.rows b.sealed.ops → tail ≡ a.tail + sealed_units b.sealed
    → Holds (record a { rows = rows; tail = tail; number = a.number + 1; begun = None })
record_done a b rows tail holds is rows_are tail_is =
    let begun = begun_known a b holds is in
    let none = no_check a b holds is in
    let long : tail ≤ a.sup.half = subst (λ t. t ≤ a.sup.half) (sym tail_is)
    (subst (λ n. a.tail + unit_count n b.sealed.ops ≤ a.sup.half) (sym (begun_held a b holds is).next) begun.fits) in
    record {
      known = record {
        limits = holds.known.limits;
        rows_fit = subst RowsFit (sym rows_are) (fit_still a.rows.rows b.sealed.ops holds.known.rows_fit begun.sealable.fit);
        tail_most = long;
        begun_fits = tt;
        stale_fits = holds.known.stale_fits;
        check_fits = subst (λ (o : Option OpenCheck). IfSome (option_map checking_of o) (IsChecking a.sup (a.number + 1) rows.rows a.stale.items)) (sym none) tt;
        alone = tt;
      };
      held = tt;
      open_is = subst (λ (o : Option OpenCheck). IfSome o (IsOpen (a.number + 1) rows.rows tail a.stale.items)) (sym none) tt;
    }

-- ---- a checkpoint

pub check_known : (a : Inside) (c : OpenCheck) → Holds a → a.check ≡ Some c → IsChecking a.sup a.number a.rows.rows a.stale.items (checking_of c)
check_known a c holds is =
    subst (λ (o : Option OpenCheck). IfSome (option_map checking_of o) (IsChecking a.sup a.number a.rows.rows a.stale.items)) is holds.known.check_fits

pub check_open : (a : Inside) (c : OpenCheck) → Holds a → a.check ≡ Some c → IsOpen a.number a.rows.rows a.tail a.stale.items c
check_open a c holds is = subst (λ (o : Option OpenCheck). IfSome o (IsOpen a.number a.rows.rows a.tail a.stale.items)) is holds.open_is

-- while a checkpoint is written no record is
no_begun : (a : Inside) (c : OpenCheck) → Holds a → a.check ≡ Some c → option_map begun_of a.begun ≡ None
no_begun a c holds is =
    alone_none (option_map begun_of a.begun) (checking_of c)
    (subst (λ (o : Option OpenCheck). OnSome (option_map begun_of a.begun) (option_map checking_of o ≡ None)) is holds.known.alone)

-- a checkpoint is open, with this much given and written
with_open : (a : Inside) (c : OpenCheck) → Holds a → option_map begun_of a.begun ≡ None
    → IsChecking a.sup a.number a.rows.rows a.stale.items (checking_of c) → IsOpen a.number a.rows.rows a.tail a.stale.items c
    → Holds (record a { check = Some c })
with_open a c holds none checking is_open = record {
  known = record {
    limits = holds.known.limits;
    rows_fit = holds.known.rows_fit;
    tail_most = holds.known.tail_most;
    begun_fits = holds.known.begun_fits;
    stale_fits = holds.known.stale_fits;
    check_fits = checking;
    alone = subst (λ (o : Option Begun). OnSome o (Some (checking_of c) ≡ None)) (sym none) tt;
  };
  held = holds.held;
  open_is = is_open;
}

-- a checkpoint of the store's rows can be opened
pub can_open : (a : Inside) → Holds a → IsSuper (next_super a.sup a.number) → check_units a.number a.rows.rows ≤ a.sup.half
    → IsSealable a.number (row_sets a.rows.rows)
can_open a holds limits fits = rows_sealable a.sup a.number a.rows.rows limits holds.known.rows_fit fits

pub check_begun : (a : Inside) (c : OpenCheck) → Holds a → option_map begun_of a.begun ≡ None → IsSuper (next_super a.sup a.number)
    → check_units a.number a.rows.rows ≤ a.sup.half → IsOpen a.number a.rows.rows a.tail a.stale.items c → c.given ≡ 0 → c.written ≡ 0
    → Holds (record a { check = Some c })
check_begun a c holds none limits fits is_open given written = with_open a c holds none (record {
  next_limits = limits;
  sealable = can_open a holds limits fits;
  fits = fits;
  given_most = omega (arith, given);
  written_most = omega (arith, given, written);
}) is_open

pub check_given : (a : Inside) (c : OpenCheck) (left : Option TableRecord) → Holds a → a.check ≡ Some c → IsCheckLeft (meta_of a)
    → IsLeftThen (meta_of a) left → Holds (record a { check = Some (record c { left = left; given = c.given + 1 }) })
check_given a c left holds is some left_is =
    let checking = check_known a c holds is in
    let is_open = check_open a c holds is in
    let below : c.given < length (checkpoint_pieces a.number a.rows.rows a.stale.items) = subst (λ (o : Option OpenCheck).
    MatchOption (option_map checking_of o) ⊥ (λ x. x.given < length (checkpoint_pieces a.number a.rows.rows a.stale.items))
    ) is some in
    let left_of : left ≡ record_left a.number a.rows.rows (c.given + 1) = subst (λ (o : Option OpenCheck).
    IfSome (option_map checking_of o) (λ x. left ≡ record_left a.number a.rows.rows (x.given + 1))
    ) is left_is in
    with_open a (record c { left = left; given = c.given + 1 }) holds (no_begun a c holds is) (record {
      next_limits = checking.next_limits;
      sealable = checking.sealable;
      fits = checking.fits;
      given_most = omega (arith, below);
      written_most = omega (arith, checking.written_most);
    }) (record { left = left_of; units = is_open.units; pieces = is_open.pieces; behind = is_open.behind })

pub check_written_on : (a : Inside) (c : OpenCheck) → Holds a → a.check ≡ Some c → IsCheckOut (meta_of a)
    → Holds (record a { check = Some (record c { written = c.written + 1 }) })
check_written_on a c holds is out =
    let checking = check_known a c holds is in
    let is_open = check_open a c holds is in
    let below : c.written < c.given = subst (λ (o : Option OpenCheck). MatchOption (option_map checking_of o) ⊥ (λ x. x.written < x.given)) is out in
    with_open a (record c { written = c.written + 1 }) holds (no_begun a c holds is) (record {
      next_limits = checking.next_limits;
      sealable = checking.sealable;
      fits = checking.fits;
      given_most = checking.given_most;
      written_most = omega (arith, below);
    }) (record { left = is_open.left; units = is_open.units; pieces = is_open.pieces; behind = is_open.behind })

-- ---- the switch of halves

front_fits : (tail half : ℕ) → tail ≤ half → AreRunsFrom 0 half (front_run tail)
front_fits zero half most = tt
front_fits (suc less) half most = (omega arith, omega arith, omega (arith, most), tt)

-- the fields behind it
abbrev pub after_switch : Inside → Super → ℕ → ℕ → Vec UnitRun Global → Inside
after_switch a sup tail number stale = record a { sup = sup; tail = tail; number = number; stale = stale; check = None }

abbrev seen_as : Inside → Super → ℕ → ℕ → Option Begun → List UnitRun → Meta
seen_as a sup tail number begun stale = record {
  sup = sup;
  rows = a.rows.rows;
  tail = tail;
  number = number;
  reserved = a.reserved;
  begun = begun;
  stale = stale;
  check = None;
}

module _ (a : Inside) (c : OpenCheck) (sup : Super) (tail number : ℕ) (stale : Vec UnitRun Global) (holds : Holds a) (is : a.check ≡ Some c)
    (sup_is : sup ≡ next_super a.sup a.number) (tail_is : tail ≡ c.units) (stale_is : stale.items ≡ c.behind.items) where
  -- what is seen of them
  pub switch_seen : number ≡ a.number + min tail 1 → meta_of (after_switch a sup tail number stale) ≡ switched_log (meta_of a)
  switch_seen number_is =
      let is_open = check_open a c holds is in
      let begun : Option Begun = option_map begun_of a.begun in
      let next : Super = next_super a.sup a.number in
      let units : ℕ = check_units a.number a.rows.rows in
      let all : tail ≡ units = tail_is ∙ is_open.units in
      let count : number ≡ a.number + length (check_records a.rows.rows) =
      number_is ∙ ap (λ u. a.number + min u 1) all ∙ ap (λ k. a.number + k) (sym (record_count a.number a.rows.rows)) in
      ap (λ (s : Super). seen_as a s tail number begun stale.items) sup_is
      ∙ ap (λ (t : ℕ). seen_as a next t number begun stale.items) all
      ∙ ap (λ (n : ℕ). seen_as a next units n begun stale.items) count
      ∙ ap (λ (r : List UnitRun). seen_as a next units (a.number + length (check_records a.rows.rows)) begun r) (stale_is ∙ is_open.behind)

  pub switch_holds : Holds (after_switch a sup tail number stale)
  switch_holds =
      let is_open = check_open a c holds is in
      let checking = check_known a c holds is in
      let none = no_begun a c holds is in
      let half : sup.half ≡ a.sup.half = ap (λ (s : Super). s.half) sup_is in
      let runs : AreRunsFrom 0 a.sup.half stale.items =
      subst (AreRunsFrom 0 a.sup.half) (sym (stale_is ∙ is_open.behind)) (front_fits a.tail a.sup.half holds.known.tail_most) in
      record {
        known = record {
          limits = subst IsSuper (sym sup_is) checking.next_limits;
          rows_fit = holds.known.rows_fit;
          tail_most = omega (arith, half, tail_is, is_open.units, checking.fits);
          begun_fits = subst (λ (o : Option Begun). IfSome o (IsBegun sup.half tail number)) (sym none) tt;
          stale_fits = subst (λ h. AreRunsFrom 0 h stale.items) (sym half) runs;
          check_fits = tt;
          alone = subst (λ (o : Option Begun). OnSome o (◌≡◌ {A = Option Checking} None None)) (sym none) tt;
        };
        held = subst (λ (o : Option BegunRecord). IfSome o (IsHeld number a.rows.room)) (sym (none_begun a.begun none)) tt;
        open_is = tt;
      }
