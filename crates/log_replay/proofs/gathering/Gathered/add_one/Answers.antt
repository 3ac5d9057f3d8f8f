use Rattle.std.proofs.Common.{◌≡◌, ◌++◌, false, List, ap, sym, ◌∙◌}
use Rattle.meta_rows.specs.Prelude.{rows_after}
use Rattle.meta_rows.specs.declared.row_op.RowOp.{RowOp}
use Rattle.log_replay.specs.Prelude.{is_bitmap_key}
use Rattle.log_replay.proofs.GatherLemmas.{is_bits, one_more_bits, one_more_other}
use Rattle.log_replay.proofs.gathering.Gathered.add_one.Goals as goal

pub returns-in_ok-push-clause-rows : goal.returns-in_ok-push-clause-rows
returns-in_ok-push-clause-rows c =
    let old = c.args.self.now in
    ap (λ (l : List RowOp). rows_after old.rows.rows (old.others.items ++ l)) c.in_ok-push.ensures.items
    ∙ one_more_bits old.rows.rows old.others.items old.bits.items c.args.op

pub returns-in_ok-push-2-clause-rows : goal.returns-in_ok-push-2-clause-rows
returns-in_ok-push-2-clause-rows c =
    let old = c.args.self.now in
    let other : is_bits c.args.op ≡ false = ap is_bitmap_key (sym c.key.ensures) ∙ sym c.is_of_bitmap.ensures ∙ c.if-is_of_bitmap.false in
    ap (λ (l : List RowOp). rows_after old.rows.rows (l ++ old.bits.items)) c.in_ok-push-2.ensures.items
    ∙ one_more_other old.rows.rows old.others.items old.bits.items c.args.op c.requires.0 c.requires.1 other
