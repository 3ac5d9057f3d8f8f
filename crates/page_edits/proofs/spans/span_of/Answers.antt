use Rattle.std.proofs.Common.{◌≡◌, true, inl, inr, ℕ, ◌+◌, ◌-◌, ◌<◌, ◌≤◌, length, sym, ap, subst, ◌∙◌, arith}
use Rattle.byte_maps.specs.Units.{zeros}
use Rattle.byte_maps.proofs.Prelude.{length-zeros}
use Rattle.object_model.specs.declared.op.Op.{Op}
use Rattle.object_model.specs.Prelude.{object_limit}
use Rattle.plan_drafts.specs.Edits.{grown, edit_of, IsInLimits}
use Rattle.page_edits.specs.declared.spans.Span.{Span}
use Rattle.page_edits.specs.Ranges.{span_by}
use Rattle.page_edits.proofs.EditSizes.{zeros_cut, length_cut}
use Rattle.page_edits.proofs.spans.span_of.Goals as goal

zero_end : (off len : ℕ) → off + len ≡ off + length (zeros len)
zero_end off len = omega (arith, length-zeros len)

cut_end : (to size : ℕ) → to < size → to ≤ object_limit → 134217728 ≡ to + length (zeros_cut to size)
cut_end to size less within =
    let short : to ≤ 134217728 = within in
    elim (length_cut to size) [
      | inl cut ↦ let long : length (zeros_cut to size) ≡ 134217728 - to = cut.1 in omega (arith, short, long)
      | inr same ↦ absurd (omega (arith, same.0, less))
    ]

abbrev made : ℕ → ℕ → ℕ → Span
made off end size = record { off = off; end = end; clears = true; size = size }

pub returns-in-Zero-clause-span : goal.returns-in-Zero-clause-span
returns-in-Zero-clause-span c =
    c.laid-in-Zero.ensures
    ∙ ap (λ n. made c.in-Zero.off n (grown c.args.size c.in-Zero.off c.in-Zero.len)) (zero_end c.in-Zero.off c.in-Zero.len)
    ∙ sym (ap (λ (op : Op). span_by (edit_of op c.args.size)) c.in-Zero.is)

pub returns-then-to-size-clause-span : goal.returns-then-to-size-clause-span
returns-then-to-size-clause-span c =
    ap (λ n. made c.in-Truncate.to n c.in-Truncate.to)
    (cut_end c.in-Truncate.to c.args.size c.if-to-size.true (subst IsInLimits c.in-Truncate.is c.requires.within))
    ∙ sym (ap (λ (op : Op). span_by (edit_of op c.args.size)) c.in-Truncate.is)
