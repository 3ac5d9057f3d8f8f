use Rattle.std.proofs.Common.{◌≡◌, ◌++◌, take}
use Rattle.std.specs.List.{flat_map}
use Rattle.row_format.specs.Prelude.{csum_bytes}
use Rattle.extent_shards.specs.Prelude.{csums_of}
use Rattle.extent_shards.proofs.writing.push_csums.Given as goal

abbrev pub invariant-loop-page : goal.invariant-loop-page
invariant-loop-page l = l.out.items ≡ l.fn.out.items ++ flat_map (csum_bytes l.width) (csums_of (take l._page-index l.pages))
