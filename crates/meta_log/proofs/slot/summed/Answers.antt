use Rattle.std.proofs.Common.{◌≡◌, ℕ, List, ◌++◌, ap, ◌∙◌, rules}
use Rattle.std.specs.Int.{w32, to_le_bytes}
use Rattle.meta_log.proofs.SlotReading.{parts_of}
use Rattle.meta_log.proofs.slot.summed.Goals as goal

pub returns-then-eq : goal.returns-then-eq
returns-then-eq c =
    let cut = c.in_ok-body.ensures.cases in
    let same : c.in_ok-body.sum.now ≡ c.to_le_bytes.result = search rules in
    record {
      size = c.if-body-eq-SUM_AT.true;
      spelled =
          parts_of _ c.args.unit.now c.in_ok-body.body.now c.in_ok-body.sum.now cut.0 cut.1
          ∙ ap (λ (sum : List ℕ). c.in_ok-body.body.now ++ sum) (same ∙ c.to_le_bytes.ensures ∙ ap (to_le_bytes w32) c.crc32c.ensures);
    }
