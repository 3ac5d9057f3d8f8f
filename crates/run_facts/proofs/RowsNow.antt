-- What a kernel that is up knows of the rows that it has now, and of its free units.
use Rattle.std.proofs.Common.{◌≡◌, None, ℕ, ◌+◌, ◌*◌, ◌^◌, ◌≤◌, arith}
use Rattle.run_facts.proofs.Common.{Disk, IsGood}
use Rattle.meta_rows.specs.Prelude.{rows_size}
use Rattle.plan_rows.specs.Prelude.{AreFreeOver, IsAboveBlobs}
use Rattle.store_steps.specs.Prelude.{State, rows_part, rows_units}
use Rattle.space_facts.proofs.Prelude.{rows_units-bytes}
use Rattle.run_facts.specs.Prelude.{IsSpaceOf, AreRowsKept, IsKept}
use Rattle.run_facts.proofs.RowsAccepted.{submitted_good, submitted_free, submitted_above}

module _ (s : State) (d : Disk) (kept : IsKept s d) (up : s.down ≡ None) where
  pub kept_rows : AreRowsKept (rows_part s)
  kept_rows = (kept.up up).rows

  pub kept_above : IsAboveBlobs s.next_sbid s.submitted
  kept_above = submitted_above s kept.always.limits kept.always.space kept_rows

  pub kept_submitted : IsGood s.log.sup s.submitted
  kept_submitted = submitted_good s kept.always.limits kept.always.space kept_rows

  pub kept_free : AreFreeOver s.log.sup s.submitted s.space
  kept_free = submitted_free s kept.always.limits kept.always.space kept_rows

  pub kept_space : IsSpaceOf s.log.sup s.space
  kept_space = kept.always.space

  -- the submitted rows as one record fit half of the log
  pub submitted_short : rows_size s.submitted ≤ 2 ^ 28
  submitted_short = short (rows_size s.submitted) (rows_units s.submitted) (rows_units s.log.rows) s.log.reserved s.log.sup.half (rows_units-bytes s.submitted)
      (kept.up up).within.submitted (kept.up up).room.room kept.always.limits.half_most
    where
      short : (bytes units rows reserved half : ℕ) → bytes ≤ 4096 * units → units ≤ rows + reserved → rows + reserved ≤ half → half ≤ 65536
          → bytes ≤ 2 ^ 28
      short bytes units rows reserved half le within room most = omega (arith, le, within, room, most)
