use Rattle.std.proofs.Common.{ℕ, List, ◌≡◌, ◌<◌, ◌+◌, [], ◌∷◌, length, drop, sym, ap, ◌∙◌, rules}
use Rattle.std.proofs.lemmas.List.{drop_more}
use Rattle.script_text.specs.Prelude.{escaped}
use Rattle.run_texts.specs.Prelude.{names_text}
use Rattle.run_texts.proofs.ReplyLemmas.{names-append, one_name}
use Rattle.run_texts.proofs.Adding.{both, said, more_added}
use Rattle.run_texts.proofs.replies.push_names.Goals as goal

pub loop-name-preserved : goal.loop-name-preserved
loop-name-preserved g c =
    let at = c.loop-name.name-index in
    let within : at < length c.args.names.now = search rules in
    let item = c.name-item.result in
    let front : drop at c.args.names.now ≡ item ∷ drop (at + 1) c.args.names.now =
    drop_more c.args.names.now at item within ∙ ap (λ (i : List ℕ). i ∷ drop (at + 1) c.args.names.now) (sym c.name-item.is) in
    more_added names_text names-append (item ∷ []) c.loop-name.invariant front
    (said (one_name item) (both c.push_str.ensures (said (ap escaped c.as_slice.ensures) c.push_name.ensures)))
