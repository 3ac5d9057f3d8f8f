use Rattle.std.proofs.Common.{◌+◌, [], None, refl, sym, subst, ◌∙◌}
use Rattle.unit_fields.specs.declared.width.Width.{Width}
use Rattle.meta_rows.specs.Prelude.{rows_from_to}
use Rattle.meta_rows.proofs.RangeLemmas.{left_more, left_none}
use Rattle.meta_log.specs.Prelude.{width_of}
use Rattle.row_reading.proofs.Entries.{AreRows, are_rows}
use Rattle.row_check.specs.Tallies.{Tallies, AreTallies, IsUncounted, IsAddedOn}
use Rattle.row_check.proofs.BlobList.{BlobBefore, no_blobs, blob_step, all_blobs}
use Rattle.row_check.proofs.counts.blobs_of.Goals as goal

pub loop-key-init : goal.loop-key-init
loop-key-init c =
    let w = width_of c.args.sup.now in
    let rows = c.args.rows.now.rows in
    let es = rows_from_to rows [] None in
    record {
      can_next = tt;
      finite = tt;
      at = 0;
      left = c.into_iter-key-iterator.ensures.into_iter_gives ∙ c.range-key-items.ensures;
      blobs = subst (λ (t : Tallies). AreTallies w rows (BlobBefore w es 0) IsUncounted t) (sym c.new-tallies.ensures) (no_blobs w rows es);
    }

pub loop-key-preserved : goal.loop-key-preserved
loop-key-preserved c =
    let rows = c.args.rows.now.rows in
    let es = rows_from_to rows [] None in
    let are : AreRows rows es = are_rows rows es refl in
    let at = c.loop-key.invariant.at in
    let x = c.in-Some.field-0.now in
    let more = left_more es at x c.next.new.self (sym c.loop-key.invariant.left ∙ c.in-Some.ensures.steps) in
    record {
      can_next = tt;
      finite = tt;
      at = at + 1;
      left = more.2;
      blobs = blob_step c.args.sup.now rows c.requires es are at x c.as_slice.result.now c.as_slice-in-loop-key.result.now more.0 more.1 c.as_slice.ensures
          c.as_slice-in-loop-key.ensures c.loop-key.tallies c.loop-key.invariant.blobs c.add_blob.new.tallies
          (subst (λ (w : Width). IsAddedOn w c.as_slice.result.now c.as_slice-in-loop-key.result.now c.loop-key.tallies c.add_blob.new.tallies) c.width.ensures
          c.in_ok-add_blob.ensures);
    }

pub returns : goal.returns
returns c =
    let rows = c.args.rows.now.rows in
    let es = rows_from_to rows [] None in
    let are : AreRows rows es = are_rows rows es refl in
    let at = c.loop-key.invariant.at in
    all_blobs c.args.sup.now rows c.requires es are at (left_none es at (sym c.loop-key.invariant.left ∙ c.in-None.ensures.steps.0)) c.loop-key.tallies
    c.loop-key.invariant.blobs
