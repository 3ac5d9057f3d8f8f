-- What is known of edits, as the crate that plans them has it.
use Rattle.std.proofs.Common.{◌≡◌, inl, inr, ℕ, ◌≤◌, length, Option, Some, None, refl, sym, ap, ◌∙◌, arith}
use Rattle.std.specs.Option.{option_map_or}
use Rattle.std.specs.FinMap as finite
use Rattle.object_model.specs.declared.op.Op.{Op}
use Rattle.plan_drafts.specs.declared.draft.Draft.{Draft}
use Rattle.plan_drafts.specs.Prelude.{Edit, pages_taking, most_units_of, or_new, edit_on, CollDraft, object_before, units_on}
use Rattle.page_edits.proofs.Counts.{few_units, units_of_payload}
use Rattle.page_edits.proofs.DraftedBytes.{whole_then, others_then}
use Rattle.page_edits.proofs.DraftedPages.{kept_was, was_put, numbered, stays_both_apart}
use Rattle.page_edits.proofs.EditSizes.{size_within, ends}
use Rattle.page_edits.proofs.OperationBytes.{length_after, operation_holds}
use Rattle.plan_proofs.proofs.DraftBytes.{ByteLaws}
use Rattle.plan_proofs.proofs.Matches.{LengthLaw}
use Rattle.plan_proofs.proofs.PlansKeep.{CountLaws}
use Rattle.plan_proofs.proofs.Reached.{EditLaws, what_becomes}

-- a page that stands in one of the maps stands in none of the other
put_none : (d : Draft) → ((page taking : ℕ) (place : _) → finite.get d.kept page ≡ Some place → finite.get d.puts page ≡ Some taking → ⊥)
    → (page : ℕ) (place : _) → finite.get d.kept page ≡ Some place → finite.get d.puts page ≡ None
put_none d apart page place kept = elim (finite.get d.puts page) as (λ z. finite.get d.puts page ≡ z → z ≡ None) [
  | None ↦ λ p. refl
  | Some t ↦ λ p. absurd (apart page t place kept p)
] refl

pub the_edit_laws : EditLaws
the_edit_laws = record {
  size = size_within;
  ends = ends;
  kept = λ e n d. kept_was e d n;
  put = λ e n d. was_put e d n;
  once = λ e n d p q taking below alone one two. (numbered e d n (record { below = below; alone = alone })).alone p q taking one two;
  apart = λ e n d apart page taking place kept put.
      let none = stays_both_apart e d n (put_none d apart) page place kept in
      let t = sym none ∙ put in cc;
}

pub the_length_law : LengthLaw
the_length_law = length_after

pub the_byte_laws : ByteLaws
the_byte_laws = record {
  bytes = λ on at held op old read n d fits short sized hold below alone were.
      operation_holds on at held op old read n d fits short sized hold (record { below = below; alone = alone }) were;
  whole = whole_then;
  others = others_then;
}

pub the_count_laws : CountLaws
the_count_laws = record {
  few = few;
  small = units_of_payload;
}
  where
    none_few : (op : Op) (d : CollDraft) → edit_on op (object_before op d) ≡ None → units_on op d ≤ most_units_of op
    none_few op d none = omega (arith, ap (λ (e : Option Edit). option_map_or (λ e. length (pages_taking e (or_new (object_before op d)))) e 0) none)

    few : (op : Op) (d : CollDraft) → units_on op d ≤ most_units_of op
    few op d = elim (what_becomes op d) [
      | inl goes ↦ none_few op d goes.edit
      | inr other ↦ elim other [
        | inl keeps ↦ none_few op d keeps.edit
        | inr edits ↦ omega (
          arith,
          ap (λ (e : Option Edit). option_map_or (λ e. length (pages_taking e (or_new (object_before op d)))) e 0) edits.edit,
          few_units op (or_new (object_before op d)).size (or_new (object_before op d)),
        )
      ]
    ]
