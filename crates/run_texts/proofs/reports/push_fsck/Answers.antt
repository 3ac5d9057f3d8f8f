use Rattle.std.proofs.Common.{[], ◌∷◌, length, sym, ap, ◌∙◌}
use Rattle.run_texts.specs.Prelude.{as_text, finding_lines, count_line, fsck_text}
use Rattle.run_texts.proofs.TextLemmas.{as_text-append}
use Rattle.run_texts.proofs.Adding.{both, said}
use Rattle.run_texts.proofs.FsckLemmas.{findings_text}
use Rattle.run_texts.proofs.reports.push_fsck.Goals as goal

pub returns-in-Ok : goal.returns-in-Ok
returns-in-Ok g c =
    let found = c.in-Ok.found in
    said (sym (as_text-append (finding_lines found) (count_line (length found) ∷ [])) ∙ sym (ap fsck_text c.in-Ok.is))
    (both (said (ap findings_text c.as_slice.ensures) c.push_findings.ensures) (said (ap (λ n. as_text (count_line n ∷ [])) c.len.ensures) c.push_count.ensures))
