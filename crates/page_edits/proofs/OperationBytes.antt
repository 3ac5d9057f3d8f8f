-- The bytes of an object after an operation, page by page, and how long they are.
use Rattle.std.proofs.Common.{◌≡◌, inl, inr, ℕ, ◌-◌, ◌≤◌, true, List, [], length, get_or, refl, sym, ap, subst, ◌∙◌, arith}
use Rattle.byte_maps.specs.Units.{zeros}
use Rattle.byte_maps.proofs.Prelude.{length-zeros}
use Rattle.object_model.specs.declared.op.Op.{Op}
use Rattle.object_model.specs.declared.op.Op.TheVariants.{Write, Zero, Truncate}
use Rattle.object_model.specs.Prelude.{object_limit, overwritten}
use Rattle.row_format.specs.Prelude.{Place}
use Rattle.store_image.specs.Prelude.{PageUnit, page_bytes}
use Rattle.plan_drafts.specs.declared.draft.Draft.{Draft}
use Rattle.plan_rows.specs.declared.plan.ReadUnit.{ReadUnit}
use Rattle.plan_drafts.specs.Edits.{grown, edit_of, places_read, page_after, drafted, Held, writes_of, with_writes, HoldBytes, bytes_after, IsInLimits}
use Rattle.page_edits.specs.Takings.{IsNumbered, WereRead}
use Rattle.page_edits.proofs.EditSizes.{grown_is, zeros_cut_is}
use Rattle.page_edits.proofs.PageBytes.{zero_there, page_length, resized_length, over_none, over_length, after_apart, page_overwritten, page_grown, page_cut}
use Rattle.page_edits.proofs.DraftedBytes.{bytes_hold}

-- a piece of no bytes changes nothing
after_nothing : (off page : ℕ) (bytes : List ℕ) → page_after off [] page (page_bytes bytes page) ≡ page_bytes bytes page
after_nothing off page bytes = after_apart off [] page (page_bytes bytes page) (page_length bytes page) (inl (omega arith))

page_edited : (op : Op) (old : List ℕ) → IsInLimits op → length old ≤ object_limit → (page : ℕ)
    → page_bytes (bytes_after op old) page ≡ page_after (edit_of op (length old)).off (edit_of op (length old)).piece page (page_bytes old page)
page_edited (Write o off bytes) old within short page = page_overwritten old off bytes page
page_edited (Zero o off len) old within short page = page_overwritten old off (zeros len) page
page_edited (Truncate o to) old within short page = elim (zeros_cut_is to (length old)) [
  | inl less ↦ page_cut old to object_limit page within short ∙ ap (λ z. page_after to z page (page_bytes old page)) (sym less.1)
  | inr same ↦ page_grown old to page same.0 ∙ sym (ap (λ z. page_after to z page (page_bytes old page)) same.1 ∙ after_nothing to page old)
]
page_edited op old within short page = sym (after_nothing 0 page old)

-- what clears pages is zeros
clears_by_zeros : (op : Op) (size : ℕ) → (edit_of op size).clears ≡ true → (i : ℕ) → get_or (edit_of op size).piece i 0 ≡ 0
clears_by_zeros (Write o off bytes) size is i = absurd cc
clears_by_zeros (Zero o off len) size is i = zero_there len i
clears_by_zeros (Truncate o to) size is i = elim (zeros_cut_is to size) [
  | inl less ↦ ap (λ l. get_or l i 0) less.1 ∙ zero_there (object_limit - to) i
  | inr same ↦ ap (λ l. get_or l i 0) same.1
]
clears_by_zeros op size is i = absurd cc

-- ---- lengths

length_overwritten : (old : List ℕ) (off : ℕ) (piece : List ℕ) → length (overwritten old off piece) ≡ grown (length old) off (length piece)
length_overwritten old off piece = elim (grown_is (length old) off (length piece)) [
  | inl laid ↦ over_length old piece off laid.0 ∙ sym laid.1
  | inr none ↦ ap (λ l. length l) (over_none old piece off (omega (arith, none.0))) ∙ sym none.1
]

pub length_after : (op : Op) (old : List ℕ) → IsInLimits op → length old ≤ object_limit → length (bytes_after op old) ≡ (edit_of op (length old)).size
length_after (Write o off bytes) old within short = length_overwritten old off bytes
length_after (Zero o off len) old within short = length_overwritten old off (zeros len) ∙ ap (grown (length old) off) (length-zeros len)
length_after (Truncate o to) old within short = resized_length old to
length_after op old within short = refl

-- ---- the pages hold them

pub operation_holds : (on : Place → PageUnit) (at : ℕ → List ℕ) (held : Held) (op : Op) (old : List ℕ) (read : List ReadUnit) (n : ℕ) (d : Draft)
    → IsInLimits op → length old ≤ object_limit → d.size ≡ length old → HoldBytes on at held d old → IsNumbered n d
    → WereRead at (places_read on (edit_of op d.size) d) read
    → HoldBytes on at (with_writes (writes_of on (edit_of op d.size) read held n d) held) (drafted (edit_of op d.size) n d) (bytes_after op old)
operation_holds on at held op old read n d within short size hold num reads =
    bytes_hold on (edit_of op d.size) read held n d num at old (bytes_after op old) hold reads
    (λ page. subst (λ s. page_bytes (bytes_after op old) page ≡ page_after (edit_of op s).off (edit_of op s).piece page (page_bytes old page)) (sym size)
    (page_edited op old within short page))
    (clears_by_zeros op d.size)
