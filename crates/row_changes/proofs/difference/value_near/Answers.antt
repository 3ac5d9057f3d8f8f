use Rattle.std.proofs.Common.{◌≡◌, option_copied, IfSome, subst}
use Rattle.row_changes.proofs.Ahead.{never_above}
use Rattle.row_changes.proofs.difference.value_near.Goals as goal

pub returns-in-None-clause-value : goal.returns-in-None-clause-value
returns-in-None-clause-value c =
    let key = c.args.key.now in
    subst (λ held. IfSome c.value_by_first-in-None.result (λ value. option_copied value ≡ held))
    (c.value_by_first.ensures.left.same key (never_above key)) c.value_by_first-in-None.ensures.value
