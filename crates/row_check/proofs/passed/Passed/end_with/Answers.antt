use Rattle.std.proofs.Common.{◌≡◌, true, false, List, sym, subst, ◌∙◌, arith}
use Rattle.row_format.specs.Prelude.{Extent}
use Rattle.row_reading.specs.declared.row.Row.{Row}
use Rattle.row_check.specs.Bad.{IsEndOf, EndsWith}
use Rattle.row_check.proofs.Ends.{ends_with_own, ends_with_other}
use Rattle.row_check.proofs.passed.Passed.end_with.Goals as goal

pub returns-then-is_shard_of : goal.returns-then-is_shard_of
returns-then-is_shard_of c =
    let s = c.in-Shard in
    let end : IsEndOf s.extents c.end_of-end.result = subst (λ (l : List Extent). IsEndOf l c.end_of-end.result) c.as_slice.ensures c.end_of-end.ensures in
    subst (λ (r : Row). EndsWith c.args.self.now r c.max.result) (sym s.is)
    (ends_with_own c.args.self.now s.coll s.object s._page s.extents c.end_of-end.result c.max.result (c.is_shard_of.ensures.0 c.if-is_shard_of.true) end
    (λ page. (λ le. (omega (arith, c.max.ensures, le), omega (arith, c.max.ensures, le)), λ both. omega (arith, c.max.ensures, both.0, both.1))))

pub returns-else-is_shard_of : goal.returns-else-is_shard_of
returns-else-is_shard_of c =
    let s = c.in-Shard in
    let end : IsEndOf s.extents c.end_of-end.result = subst (λ (l : List Extent). IsEndOf l c.end_of-end.result) c.as_slice.ensures c.end_of-end.ensures in
    subst (λ (r : Row). EndsWith c.args.self.now r c.end_of-end.result) (sym s.is)
    (ends_with_other c.args.self.now s.coll s.object s._page s.extents c.end_of-end.result
    (λ own. let is = c.is_shard_of.ensures.1 own in let never : true ≡ false = sym is ∙ c.if-is_shard_of.false in cc) end)
