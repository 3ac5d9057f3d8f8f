use Rattle.std.proofs.Common.{subst, ◌∙◌}
use Rattle.row_changes.specs.Ahead.{LieAhead}
use Rattle.row_changes.proofs.Ahead.{never_above}
use Rattle.row_changes.proofs.difference.last_value_of.Goals as goal

pub returns-in-Some-value_near : goal.returns-in-Some-value_near
returns-in-Some-value_near c =
    let key = c.args.key.now in
    c.in-Some-value_near.ensures.value
    ∙ (subst (λ ahead. LieAhead c.args.rows.now.rows ahead key) c.in-Some.is c.requires).1 key (never_above key)
