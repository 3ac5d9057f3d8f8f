use Rattle.std.proofs.Common.{rules}
use Rattle.std.proofs.lemmas.Fn.{always_returns_same}
use Rattle.log_replay.proofs.PresortLemmas.{word, by_words}
use Rattle.log_replay.proofs.presorting.presorted.Goals as goal

pub returns : goal.returns
returns c = λ rows. by_words c.in_ok-front.front rows c.args.ops.items _
    (c.in_ok-sort_by_cached_key.ensures.stable (word c.in_ok-front.front) (always_returns_same _ _ _ (λ a r f' called. search rules)))
