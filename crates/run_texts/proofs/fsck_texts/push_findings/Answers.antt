use Rattle.std.proofs.Common.{◌≡◌, ◌<◌, ◌+◌, [], ◌∷◌, length, drop, sym, ap, ◌∙◌, rules}
use Rattle.std.proofs.lemmas.List.{drop_more}
use Rattle.findings.specs.declared.finding.Finding.{Finding}
use Rattle.run_texts.proofs.FsckLemmas.{findings_text, findings-append}
use Rattle.run_texts.proofs.Adding.{more_added}
use Rattle.run_texts.proofs.fsck_texts.push_findings.Goals as goal

pub loop-finding-preserved : goal.loop-finding-preserved
loop-finding-preserved g c =
    let at = c.loop-finding.finding-index in
    let within : at < length c.args.found.now = search rules in
    let item = c.finding-item.result in
    let front : drop at c.args.found.now ≡ item ∷ drop (at + 1) c.args.found.now =
    drop_more c.args.found.now at item within ∙ ap (λ (i : Finding). i ∷ drop (at + 1) c.args.found.now) (sym c.finding-item.is) in
    more_added findings_text findings-append (item ∷ []) c.loop-finding.invariant front
    (c.push_finding.ensures)
