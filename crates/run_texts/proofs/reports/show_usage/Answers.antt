use Rattle.std.proofs.Common.{[], ◌∷◌}
use Rattle.run_texts.proofs.Adding.{both, from_nothing}
use Rattle.run_texts.proofs.reports.show_usage.Goals as goal

pub returns : goal.returns
returns g c = record {
  lines = c.unwrap_or-line.result.now ∷ [];
  printed = c.print_rest.ensures _ _ (from_nothing c.new-text.ensures (both c.push_str.ensures c.push_str-2.ensures));
}
