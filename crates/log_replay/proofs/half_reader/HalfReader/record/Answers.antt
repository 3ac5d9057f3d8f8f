use Rattle.std.proofs.Common.{Bool, List, ℕ, subst}
use Rattle.std.specs.Prelude.{MatchOption}
use Rattle.meta_rows.specs.declared.row_op.RowOp.{RowOp}
use Rattle.meta_log.specs.Prelude.{BeginsWithRecord, IsAtFront}
use Rattle.log_replay.specs.Prelude.{MayStand}
use Rattle.log_replay.proofs.HalfLemmas.{record_or_none}
use Rattle.log_replay.proofs.half_reader.HalfReader.record.Goals as goal

pub returns-in-Ok-clause-found : goal.returns-in-Ok-clause-found
returns-in-Ok-clause-found g c =
    let half = c.fetch_record.new.self in
    let number = c.args.number in
    record_or_none half number c.in-Ok.found
    (subst (λ (b : Bool). MayStand b half number) c.if-not-branch.false c.in_ok-fetch_record.ensures.may)
    (subst (λ (l : List ℕ). MatchOption c.in-Ok.found ((ops : List RowOp) (rest : List ℕ) → ¬ BeginsWithRecord l number ops rest) (IsAtFront l number))
    c.left.ensures c.in-Ok.ensures)
