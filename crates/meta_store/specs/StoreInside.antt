-- What a store's fields stand for, and what holds of them.
use Rattle.std.specs.Prelude.{◌≡◌, ℕ, ◌≤◌, List, length, IfSome}
use Rattle.std.specs.Option.{option_map}
use Rattle.meta_rows.specs.Prelude.{Rows}
use Rattle.meta_log.specs.declared.runs.UnitRun.{UnitRun}
use Rattle.meta_log.specs.Prelude.{check_units, front_run}
use Rattle.meta_store.specs.declared.check.OpenCheck.{OpenCheck}
use Rattle.meta_store.specs.declared.store.BegunRecord.{BegunRecord}
use Rattle.meta_store.specs.declared.store.MetaStore.TheInside.{Inside}
use Rattle.meta_store.specs.Store.{Begun, Checking, Meta, IsMeta, checkpoint_pieces}
use Rattle.meta_store.specs.Checks.{record_left}

abbrev pub begun_of : BegunRecord → Begun
begun_of b = record { ops = b.sealed.ops; given = b.given; written = b.written }

abbrev pub checking_of : OpenCheck → Checking
checking_of c = record { given = c.given; written = c.written }

abbrev pub meta_of : Inside → Meta
meta_of a = record {
  sup = a.sup;
  rows = a.rows.rows;
  tail = a.tail;
  number = a.number;
  reserved = a.reserved;
  begun = option_map begun_of a.begun;
  stale = a.stale.items;
  check = option_map checking_of a.check;
}

-- the record has the next number, and the rows have room for its operations
pub record IsHeld (number room : ℕ) (b : BegunRecord) : Type 0 where
  pub next : b.sealed.number ≡ number
  pub room_made : length b.sealed.ops ≤ room

-- the checkpoint is of these rows and this number, for this tail and these stale units
pub record IsOpen (number : ℕ) (rows : Rows) (tail : ℕ) (stale : List UnitRun) (c : OpenCheck) : Type 0 where
  pub left : c.left ≡ record_left number rows c.given
  pub units : c.units ≡ check_units number rows
  pub pieces : c.pieces.items ≡ checkpoint_pieces number rows stale
  pub behind : c.behind.items ≡ front_run tail

pub record Holds (a : Inside) : Type 0 where
  pub known : IsMeta (meta_of a)
  pub held : IfSome a.begun (IsHeld a.number a.rows.room)
  pub open_is : IfSome a.check (IsOpen a.number a.rows.rows a.tail a.stale.items)
