use Rattle.std.proofs.Common.{arith}
use Rattle.std.proofs.lemmas.List.{get_or_default}
use Rattle.crc32c_csum.proofs.Laws.{crc32c_fits}
use Rattle.txn_planner.proofs.standing.checksum_fits.Goals as goal

pub returns : goal.returns
returns c =
    let bytes = c.args.bytes.now in
    crc32c_fits bytes (λ k d lt. omega (arith, get_or_default bytes k d 0 lt, c.type_inv.bytes k))
