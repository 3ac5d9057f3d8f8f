-- The text of findings.
use Rattle.std.proofs.Common.{◌≡◌, ℕ, List, ◌++◌, ap, ◌∙◌}
use Rattle.std.proofs.lemmas.List.{map-append}
use Rattle.findings.specs.declared.finding.Finding.{Finding}
use Rattle.run_texts.specs.Prelude.{as_text, finding_line, finding_lines}
use Rattle.run_texts.proofs.TextLemmas.{as_text-append}

abbrev pub findings_text : List Finding → List ℕ
findings_text found = as_text (finding_lines found)

pub findings-append : (xs ys : List Finding) → findings_text (xs ++ ys) ≡ findings_text xs ++ findings_text ys
findings-append xs ys = ap as_text (map-append finding_line xs ys) ∙ as_text-append (finding_lines xs) (finding_lines ys)
