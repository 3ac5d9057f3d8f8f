use Rattle.std.proofs.Common.{refl, arith}
use Rattle.row_check.proofs.BlobRows.{said_enough, read_enough}
use Rattle.row_check.proofs.blobs.says_slots.Goals as goal

pub returns-in-Some : goal.returns-in-Some
returns-in-Some c = (
  λ yes. said_enough c.args.width c.args.key.now c.args.value.now c.args.end c.in-Some.count c.in-Some.ensures (omega (arith, c.if-end-from.true, c.from.ensures)),
  λ says. refl,
)

pub returns : goal.returns
returns c =
    let by = read_enough c.args.width c.args.key.now c.args.value.now c.args.end c.in_ok-row.row c.in_ok-row.ensures in
    (λ yes. by.0 (c.has_so_many.ensures.0 yes), λ says. c.has_so_many.ensures.1 (by.1 says))
