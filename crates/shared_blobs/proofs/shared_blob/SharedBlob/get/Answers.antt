use Rattle.std.proofs.Common.{length, set, ap, ◌∙◌, arith}
use Rattle.shared_blobs.specs.Blob.{Blob, with_one_more}
use Rattle.shared_blobs.proofs.Slots.{more_at}
use Rattle.shared_blobs.proofs.shared_blob.SharedBlob.get.Goals as goal

pub returns : goal.returns
returns c =
    let first = ap (λ (z : Blob). z.first) c.self.view_is in
    let slots = ap (λ (z : Blob). z.slots) c.self.view_is in
    let made = ap (set c.self.inside.slots.items c.from-at.result) c.raised.ensures
    ∙ more_at c.self.inside.slots.items c.from-at.result c.index.result.now
    (omega (arith, c.requires.within, c.from-at.ensures, ap length slots)) c.index.ensures
    ∙ (λ i. with_one_more (slots i) (c.from-at.ensures i)) in
    λ i. record { first = first i; slots = made i }
