use Rattle.std.proofs.Common.{ap, codes}
use Rattle.run_texts.specs.Prelude.{as_text, view_line, value_lines, header_lines}
use Rattle.run_texts.proofs.Adding.{both, said}
use Rattle.run_texts.proofs.DumpLemmas.{values_text, line_and_three}
use Rattle.run_texts.proofs.dump_texts.push_object.Goals as goal

pub returns : goal.returns
returns g c =
    let v = c.args.view.now in
    said (line_and_three (view_line v) (value_lines (codes "attr ") v.attrs) (header_lines v.header) (value_lines (codes "omap ") v.omap))
    (both (both (both c.push_view.ensures (said (ap (values_text (codes "attr ")) c.as_slice.ensures) c.push_values.ensures))
    (said (ap (λ h. as_text (header_lines h)) c.as_slice-2.ensures) c.push_header.ensures))
    (said (ap (values_text (codes "omap ")) c.as_slice-3.ensures) c.push_values-2.ensures))
