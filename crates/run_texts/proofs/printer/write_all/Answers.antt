use Rattle.std.proofs.Common.{◌-◌, length, take, drop, ap, ◌∙◌, arith, length-drop}
use Rattle.end_points.specs.Sink.{with_bytes}
use Rattle.run_texts.proofs.Taking.{rest_is, with_more}
use Rattle.run_texts.proofs.printer.write_all.Goals as goal

pub loop-at-preserved : goal.loop-at-preserved
loop-at-preserved g c =
    let at = c.loop-at.at in
    let n = c.in_ok-at.field-0 in
    let text = c.args.text.now in
    let put = c.in_ok-at.ensures.ok in
    record {
      inside = omega (arith, length-drop at text, ap length (rest_is text at), put.inside);
      written = put.written ∙ (ap (λ o. with_bytes o (take n (take (length text - at) (drop at text)))) c.loop-at.invariant.written ∙
          with_more _ text at n);
      faults = c.in_ok-at.ensures.kept ∙ c.loop-at.invariant.faults;
    }
