use Rattle.std.proofs.Common.{◌≡◌, take, length, refl, length-take-le, arith}
use Rattle.meta_log.proofs.PartLemmas.{no_head, units_said}
use Rattle.meta_log.proofs.scanning.record_units.Goals as goal

pub returns-in_err-head : goal.returns-in_err-head
returns-in_err-head c =
    let bytes = c.args.bytes.now in
    let size : length (take 20 bytes) ≡ 20 = length-take-le 20 bytes c.requires in
    rw c.from_residual.ensures (no_head bytes (take 20 bytes) c.args.number refl size c.in_err-head.ensures)

pub returns : goal.returns
returns c =
    let bytes = c.args.bytes.now in
    let size : length (take 20 bytes) ≡ 20 = length-take-le 20 bytes c.requires in
    let head = c.in_ok-head.head in
    units_said bytes (take 20 bytes) c.args.number head.count head.size _ refl size c.in_ok-head.ensures (omega arith) c.units_of_body.ensures
