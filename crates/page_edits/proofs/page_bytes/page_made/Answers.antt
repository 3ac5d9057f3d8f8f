use Rattle.std.proofs.Common.{inl, inr, ℕ, ◌+◌, ◌*◌, ◌<◌, ◌≤◌, length, subst, arith}
use Rattle.byte_maps.specs.Units.{zeros}
use Rattle.byte_maps.proofs.Prelude.{length-zeros}
use Rattle.object_model.specs.declared.op.Op.{Op}
use Rattle.object_model.specs.Prelude.{object_limit}
use Rattle.plan_drafts.specs.Edits.{end_of, IsInLimits}
use Rattle.page_edits.specs.Writes.{widest}
use Rattle.page_edits.proofs.EditSizes.{zeros_cut, length_cut}
use Rattle.page_edits.proofs.page_bytes.page_made.Goals as goal

pub page_zeroed-requires-clause-to : goal.page_zeroed-requires-clause-to
page_zeroed-requires-clause-to c =
    let page : ℕ = c.args.write.now.page in
    let to : 4096 * c.args.write.now.page < c.in-Zero.off + length (zeros c.in-Zero.len) =
    subst (λ (o : Op). 4096 * page < end_of (widest o)) c.in-Zero.is c.requires.to in
    omega (arith, to, length-zeros c.in-Zero.len)

pub page_zeroed-requires-in-Truncate-clause-to : goal.page_zeroed-requires-in-Truncate-clause-to
page_zeroed-requires-in-Truncate-clause-to c =
    let page : ℕ = c.args.write.now.page in
    let within : c.in-Truncate.size ≤ 134217728 = subst IsInLimits c.in-Truncate.is c.requires.within in
    let to : 4096 * c.args.write.now.page < c.in-Truncate.size + length (zeros_cut c.in-Truncate.size object_limit) =
    subst (λ (o : Op). 4096 * page < end_of (widest o)) c.in-Truncate.is c.requires.to in
    elim (length_cut c.in-Truncate.size object_limit) [
      | inl less ↦ omega (arith, to, within, less.1)
      | inr same ↦ omega (arith, to, within, same.1)
    ]
