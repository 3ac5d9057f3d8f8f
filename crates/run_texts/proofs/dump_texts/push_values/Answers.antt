use Rattle.std.proofs.Common.{◌≡◌, ◌<◌, ◌+◌, [], ◌∷◌, length, drop, sym, ap, ◌∙◌, rules}
use Rattle.std.proofs.lemmas.List.{drop_more}
use Rattle.read_facts.specs.declared.view.ValueView.{ValueView}
use Rattle.run_texts.proofs.DumpLemmas.{values_text, values-append}
use Rattle.run_texts.proofs.Adding.{more_added}
use Rattle.run_texts.proofs.dump_texts.push_values.Goals as goal

pub loop-value-preserved : goal.loop-value-preserved
loop-value-preserved g c =
    let at = c.loop-value.value-index in
    let within : at < length c.args.values.now = search rules in
    let item = c.value-item.result in
    let front : drop at c.args.values.now ≡ item ∷ drop (at + 1) c.args.values.now =
    drop_more c.args.values.now at item within ∙ ap (λ (i : ValueView). i ∷ drop (at + 1) c.args.values.now) (sym c.value-item.is) in
    more_added (values_text c.args.word.now) (values-append c.args.word.now) (item ∷ []) c.loop-value.invariant front
    (c.push_value.ensures)
