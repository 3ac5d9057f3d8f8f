use Rattle.std.proofs.Common.{◌≡◌, take, map}
use Rattle.shared_blobs.specs.Blob.{named_once}
use Rattle.shared_blobs.proofs.shared_blob.SharedBlob.share.Given as goal

abbrev pub invariant-loop-csum : goal.invariant-loop-csum
invariant-loop-csum l = l.slots.items ≡ map named_once (take l.csum-index l.csums)
