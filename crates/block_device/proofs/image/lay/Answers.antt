use Rattle.std.proofs.Common.{ℕ, ◌+◌, ◌*◌, ◌-◌, ◌≡◌, List, ◌++◌, length, take, drop, refl, ◌∙◌, ap, arith}
use Rattle.std.proofs.lemmas.List.{take_all}
use Rattle.std.proofs.lemmas.Slice.{put_mid-paste}
use Rattle.byte_maps.specs.Units.{overlaid}
use Rattle.block_device.proofs.image.lay.Goals as goal

pub returns : goal.returns
unfolding overlaid
returns c =
    let n = length c.args.bytes.now in
    let at = 4096 * c.args.at in
    let whole : take n c.args.bytes.now ≡ c.args.bytes.now = take_all n c.args.bytes.now (omega arith) in
    put_mid-paste at (at + n - at) c.args.contents.now c.copy_from_slice.new.self c.args.bytes.now n c.copy_from_slice.ensures.after (omega arith) refl
    ∙ ap (λ (l : List ℕ). take at c.args.contents.now ++ l ++ drop (at + n) c.args.contents.now) whole
