use Rattle.std.proofs.Common.{◌≤◌, refl, sym, subst, ◌∙◌, arith}
use Rattle.block_device.specs.Prelude.{Disk}
use Rattle.meta_rows.specs.Prelude.{Rows}
use Rattle.meta_log.specs.Prelude.{IsAtFront}
use Rattle.log_replay.specs.Prelude.{bytes_not_passed, ReadsOn, HasNoRecord, rows_so_far}
use Rattle.log_replay.proofs.HalfLemmas.{ReplayedHalf, half_begun, half_read, half_replayed, half_done, record_there}
use Rattle.log_replay.proofs.replaying.replay.Goals as goal

pub records-init : goal.records-init
records-init g c =
    (refl, omega arith, half_begun (g.D.Device.disk c.args.dev.now) c.args.half.now c.args.first (rows_so_far c.new-gathered.result) c.requires.begin c.requires.order c.new-gathered.ensures.none, c.new-gathered.ensures.parted)

pub record-requires-clause-reader : goal.record-requires-clause-reader
record-requires-clause-reader g c = c.records.invariant.2.reader

pub record-requires-clause-inside : goal.record-requires-clause-inside
record-requires-clause-inside g c =
    let was = c.records.invariant in
    subst (λ (d : Disk). c.records.half.end ≤ d.units) (sym was.0) (omega (arith, was.2.end_is, c.requires.inside))

pub skip-requires-clause-reader : goal.skip-requires-clause-reader
skip-requires-clause-reader g c = c.in_ok-found.ensures.read.reader

pub skip-requires-clause-there : goal.skip-requires-clause-there
skip-requires-clause-there g c =
    let found : IsAtFront (bytes_not_passed c.record.new.self) c.records.number c.in-Some.found = rw c.in-Some.is at c.in_ok-found.ensures.found in
    (record_there (bytes_not_passed c.record.new.self) c.records.number c.in-Some.found found).0

pub records-preserved : goal.records-preserved
records-preserved g c =
    let disk = g.D.Device.disk in
    let d = disk c.args.dev.now in
    let was = c.records.invariant in
    let read : ReadsOn d c.records.half c.record.new.self = subst (λ (e : Disk). ReadsOn e c.records.half c.record.new.self) was.0 c.in_ok-found.ensures.read in
    let found : IsAtFront (bytes_not_passed c.record.new.self) c.records.number c.in-Some.found = rw c.in-Some.is at c.in_ok-found.ensures.found in (
      c.record.ensures.same ∙ was.0,
      omega (arith, was.1, c.record.ensures.faults),
      half_replayed d c.args.half.now c.args.first c.record.new.self c.skip.new.self (rows_so_far c.records.gathered) c.records.tail c.records.number c.in-Some.found
          (rows_so_far c.take.new.self) (half_read d c.args.half.now c.args.first c.records.half c.record.new.self (rows_so_far c.records.gathered) c.records.tail c.records.number
          was.2 read) found c.skip.ensures c.in-Ok.ensures.rows,
      c.in-Ok.ensures.parted,
    )

pub records-smaller : goal.records-smaller
records-smaller g c =
    let found : IsAtFront (bytes_not_passed c.record.new.self) c.records.number c.in-Some.found = rw c.in-Some.is at c.in_ok-found.ensures.found in
    let read = c.in_ok-found.ensures.read in
    let skipped = c.skip.ensures in
    omega (
      arith,
      read.at,
      read.end_is,
      skipped.at,
      skipped.end_is,
      skipped.reader.read,
      skipped.reader.more,
      (record_there (bytes_not_passed c.record.new.self) c.records.number c.in-Some.found found).1,
    )

pub returns-clause-replayed : goal.returns-clause-replayed
returns-clause-replayed g c =
    let disk = g.D.Device.disk in
    let d = disk c.args.dev.now in
    let was = c.records.invariant in
    let read : ReadsOn d c.records.half c.record.new.self = subst (λ (e : Disk). ReadsOn e c.records.half c.record.new.self) was.0 c.in_ok-found.ensures.read in
    let none : HasNoRecord c.record.new.self c.records.number = rw c.in_default.is at c.in_ok-found.ensures.found in
    let so_far = half_read d c.args.half.now c.args.first c.records.half c.record.new.self (rows_so_far c.records.gathered) c.records.tail c.records.number was.2 read in
    let made = subst (λ (r : Rows). ReplayedHalf d c.args.half.now c.args.first c.record.new.self r c.records.tail c.records.number) (sym c.in-Ok-finish.ensures) so_far in
    half_done d c.args.half.now c.args.first c.record.new.self _ made none
