use Rattle.std.proofs.Common.{rules}
use Rattle.std.specs.Cmp.Lexicographic.{nat_list_cmp_total}
use Rattle.std.proofs.lemmas.Fn.{always_returns_same}
use Rattle.std.proofs.lemmas.List.Sorted.{ranks_by}
use Rattle.meta_rows.specs.Prelude.{key_of}
use Rattle.meta_rows.proofs.BatchLemmas.{is_before, in_another_order}
use Rattle.meta_rows.proofs.FillLemmas.{rises}
use Rattle.meta_rows.proofs.row_table.by_key.Goals as goal

pub returns-clause-rows : goal.returns-clause-rows
returns-clause-rows c = λ rows. in_another_order rows c.args.ops.items _ (c.in_ok-sort_by.ensures.stable is_before (ranks_by nat_list_cmp_total key_of) (always_returns_same _ _ _ (λ a r f' called. search rules)))

pub returns-clause-rises : goal.returns-clause-rises
returns-clause-rises c = rises _ (ranks_by nat_list_cmp_total key_of) (c.in_ok-sort_by.ensures.sorted is_before (ranks_by nat_list_cmp_total key_of) (always_returns_same _ _ _ (λ a r f' called. search rules)))
