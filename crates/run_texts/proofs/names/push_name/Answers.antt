use Rattle.std.proofs.Common.{◌<◌, [], ◌∷◌, length, get_or, sym, ◌∙◌, rules}
use Rattle.std.proofs.lemmas.List.{drop_more}
use Rattle.script_text.specs.Prelude.{escape, escaped}
use Rattle.script_text.proofs.Spelled.{spelled_nil}
use Rattle.run_texts.proofs.ReplyLemmas.{escaped-append, escaped_one}
use Rattle.run_texts.proofs.Adding.{said, none_added, more_added}
use Rattle.run_texts.proofs.names.push_name.Goals as goal

pub loop-byte-init : goal.loop-byte-init
loop-byte-init g c = none_added escaped _ _ _ (spelled_nil escape)

pub loop-byte-preserved : goal.loop-byte-preserved
loop-byte-preserved g c =
    let at = c.loop-byte.byte-index in
    let within : at < length c.args.name.now = search rules in
    let byte = get_or c.args.name.now at 0 in
    more_added escaped escaped-append (byte ∷ []) c.loop-byte.invariant (drop_more c.args.name.now at 0 within)
    (said (c.as_slice.ensures.value ∙ c.spell_byte.ensures ∙ sym (escaped_one byte)) c.push.ensures)
