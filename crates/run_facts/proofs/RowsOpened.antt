-- A kernel that was just opened has nothing under way.
use Rattle.std.proofs.Common.{ℕ, refl}
use Rattle.unit_allocator.specs.Prelude.{Space}
use Rattle.store_steps.specs.Prelude.{Found, opened, rows_part}
use Rattle.space_facts.proofs.Prelude.{each_none, apart_none, homes_none, below_none}
use Rattle.run_facts.specs.Prelude.{AreRowsKept, IsOpenable}

pub opened_rows : (f : Found) (space : Space) (next events units : ℕ) → IsOpenable f space next units → AreRowsKept (rows_part (opened f space next events))
opened_rows f space next events units is = record {
  submitted = refl;
  good = is.good;
  planned = each_none f.sup f.rows;
  apart = apart_none f.rows;
  counted = is.counted;
  held = is.held;
  homes = homes_none f.sup f.rows is.good;
  blobs = below_none next f.rows is.above;
}
