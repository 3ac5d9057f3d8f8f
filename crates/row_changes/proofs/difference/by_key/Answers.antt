use Rattle.std.proofs.Common.{rules}
use Rattle.std.specs.Cmp.Lexicographic.{nat_list_cmp_total}
use Rattle.std.proofs.lemmas.Fn.{always_returns_same}
use Rattle.std.proofs.lemmas.List.Sorted.{ranks_by}
use Rattle.row_changes.specs.declared.row_change.RowChange.{RowChange}
use Rattle.row_changes.proofs.Sorted.{is_before, in_another_order, rises}
use Rattle.row_changes.proofs.difference.by_key.Goals as goal

pub returns-clause-same : goal.returns-clause-same
returns-clause-same c = in_another_order c.args.log.items _
    (c.in_ok-sort_by.ensures.stable is_before (ranks_by nat_list_cmp_total (λ (x : RowChange). x.key))
    (always_returns_same _ _ _ (λ a r f' called. search rules)))

pub returns-clause-rise : goal.returns-clause-rise
returns-clause-rise c = rises _ (ranks_by nat_list_cmp_total (λ (x : RowChange). x.key))
    (c.in_ok-sort_by.ensures.sorted is_before (ranks_by nat_list_cmp_total (λ (x : RowChange). x.key))
    (always_returns_same _ _ _ (λ a r f' called. search rules)))
