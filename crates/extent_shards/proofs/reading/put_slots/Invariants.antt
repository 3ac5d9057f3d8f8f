use Rattle.std.proofs.Common.{◌≡◌}
use Rattle.row_format.specs.Prelude.{shared}
use Rattle.blob_map.specs.Prelude.{extent_pages, with_pages}
use Rattle.extent_shards.proofs.reading.put_slots.Given as goal

abbrev pub invariant-loop-i : goal.invariant-loop-i
invariant-loop-i l = l.pages ≡ with_pages l.fn.pages (extent_pages (record { first = l.first; body = shared l.sbid l.index l.i }))
