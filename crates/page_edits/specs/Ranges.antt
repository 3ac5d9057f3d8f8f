-- What an edit lays over an object's bytes, from an offset to an end, and what that makes of the pages of its draft.
use Rattle.std.specs.Prelude.{ℕ}
use Rattle.object_model.specs.declared.op.Op.{Op}
use Rattle.object_model.specs.declared.op.Op.TheVariants.{Touch, Write, Zero, Truncate}
use Rattle.plan_drafts.specs.declared.draft.Draft.{Draft}
use Rattle.plan_drafts.specs.declared.fate.Fate.{Fate}
use Rattle.plan_drafts.specs.Edits.{Edit, end_of, fate_in}
use Rattle.page_edits.specs.declared.spans.Span.{Span}

-- an operation on an object's bytes, which makes the object where it is missing or leaves it there
abbrev pub IsOnBytes : Op → Type 0
IsOnBytes (Touch o) = Unit {0}
IsOnBytes (Write o off bytes) = Unit {0}
IsOnBytes (Zero o off len) = Unit {0}
IsOnBytes (Truncate o to) = Unit {0}
IsOnBytes op = ⊥

-- what an edit lays, without the bytes themselves
abbrev pub span_by : Edit → Span
span_by e = record { off = e.off; end = end_of e; clears = e.clears; size = e.size }

-- what becomes of a page
abbrev pub fate_on : Span → Draft → ℕ → Fate
fate_on s d page = fate_in s.off s.end s.clears d page
