use Rattle.std.proofs.Common.{inl, inr}
use Rattle.end_points.proofs.BayLemmas.{by_answer, all_contents_insert}
use Rattle.end_points.proofs.memory_bay.MemoryBay.put_device.Goals as goal

pub invariant_of-self : goal.invariant_of-self
invariant_of-self c =
    let s = c.self.invariant in
    record {
      contents = elim (by_answer _ _ c.insert.result c.insert.ensures.ok c.insert.ensures.err) [
        | inl is ↦ rw (is, c.from_vec.ensures) (all_contents_insert c.self.inside.devices _ _ s.contents c.requires)
        | inr is ↦ rw is s.contents
      ];
      lags = s.lags;
      step = s.step;
    }
