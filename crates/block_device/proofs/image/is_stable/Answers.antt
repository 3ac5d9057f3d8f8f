use Rattle.block_device.proofs.Places.{stable_before}
use Rattle.block_device.proofs.image.is_stable.Goals as goal

pub returns : goal.returns
returns c =
    let means = stable_before c.args.log.now c.args.last_flush c.args.write c.requires in
    (λ found. means.0 (c.has_good_done.ensures.0 found), λ s. c.has_good_done.ensures.1 (means.1 s))
