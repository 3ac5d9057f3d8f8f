use Rattle.std.proofs.Common.{◌≡◌, length, ap, arith}
use Rattle.meta_rows.specs.Prelude.{ops_bytes, SpellOps}
use Rattle.meta_log.proofs.PartLemmas.{parts_of_record, ops_of_record, no_record, is_record}
use Rattle.meta_log.proofs.scanning.read_record.Goals as goal
use Rattle.meta_log.proofs.scanning.read_record.Goals.{else-number-lt-NUMBER_LIMIT-via-then-number-lt-NUMBER_LIMIT+else-len-parts, else-number-lt-NUMBER_LIMIT-via-else-number-lt-NUMBER_LIMIT}

pub returns-in_default : goal.returns-in_default
returns-in_default c = λ ops rest here. c.in_default.ensures (length ops) (ops_bytes ops) rest (parts_of_record _ _ ops rest here)

pub returns-in_default-2 : goal.returns-in_default-2
returns-in_default-2 c = λ ops rest here. no_record _ _ _ _ _ ops rest c.in-Some.ensures (rw c.in_default-2.is at c.in_ok-ops.ensures) here

pub returns-then-len-parts : goal.returns-then-len-parts
returns-then-len-parts c =
    let spelled : SpellOps c.in-Some.parts.body.now c.in-Some-2.ops.items = rw c.in-Some-2.is at c.in_ok-ops.ensures in
    let count : length c.in-Some-2.ops.items ≡ c.in-Some.parts.count = omega (arith, c.in-Some-2.ops.ok.0) in
    let is = is_record _ _ _ _ _ _ c.in-Some.ensures spelled c.if-number-lt-NUMBER_LIMIT.true count in
    rw c.from_vec-ops.ensures (record { stands = is.0; size = is.1 })

pub returns-else-number-lt-NUMBER_LIMIT : goal.returns-else-number-lt-NUMBER_LIMIT
returns-else-number-lt-NUMBER_LIMIT c = λ ops rest here.
    let spelled : SpellOps c.in-Some.parts.body.now c.in-Some-2.ops.items = rw c.in-Some-2.is at c.in_ok-ops.ensures in
    let same = ops_of_record _ _ _ _ _ _ ops rest c.in-Some.ensures spelled here in
    elim c.else-number-lt-NUMBER_LIMIT.branch [
      | else-number-lt-NUMBER_LIMIT-via-then-number-lt-NUMBER_LIMIT+else-len-parts w ↦ w.if-len-parts.false (omega (arith, c.in-Some-2.ops.ok.0, same.1, ap length same.0))
      | else-number-lt-NUMBER_LIMIT-via-else-number-lt-NUMBER_LIMIT w ↦ absurd (omega (arith, here.number_below))
    ]
