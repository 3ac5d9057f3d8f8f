use Rattle.std.proofs.Common.{option_copied, subst, sym, ap, T, ◌∙◌}
use Rattle.std.specs.FinMap.{find, is_sorted}
use Rattle.byte_maps.specs.ByteMap.{byte_order}
use Rattle.row_changes.specs.Ahead.{IsFirstBelow, AreLeft, LieAhead}
use Rattle.row_changes.proofs.Ahead.{never_above, onwards_sorted, onwards_ahead, onwards_find, never_below, flattened}
use Rattle.row_changes.proofs.difference.value_of.Goals as goal

pub returns-in-Some-value_near-clause-value : goal.returns-in-Some-value_near-clause-value
returns-in-Some-value_near-clause-value c =
    let key = c.args.key.now in
    c.in-Some-value_near.ensures.value
    ∙ (subst (λ ahead. LieAhead c.args.rows.now.rows ahead key) c.in-Some.is c.requires).1 key (never_above key)

pub value_by_first-value-requires : goal.value_by_first-value-requires
value_by_first-value-requires c =
    subst (λ es. T (is_sorted byte_order es)) (sym c.range-found.ensures) (onwards_sorted c.args.rows.now.rows c.args.key.now)

pub returns-clause-ahead : goal.returns-clause-ahead
returns-clause-ahead c = onwards_ahead c.args.rows.now.rows c.args.key.now c.value_by_first-value.new.ahead
    (subst (λ es. AreLeft c.args.key.now es c.value_by_first-value.new.ahead) c.range-found.ensures c.value_by_first-value.ensures.left)

pub returns-clause-value : goal.returns-clause-value
returns-clause-value c =
    let rows = c.args.rows.now.rows in
    let key = c.args.key.now in
    ap option_copied c.flatten.ensures
    ∙ flattened option_copied c.value_by_first-value.result (find byte_order key c.range-found.result) c.value_by_first-value.ensures.value
    (λ none. never_below rows key (subst (IsFirstBelow key) c.range-found.ensures (c.value_by_first-value.ensures.below none)))
    ∙ ap (find byte_order key) c.range-found.ensures ∙ onwards_find rows key key (never_above key)
