-- What a call makes of the rows keeps what is kept of them.
use Rattle.std.proofs.Common.{◌≡◌, ℕ, ◌+◌, ◌<◌, List, [], ◌∷◌, ◌++◌, map, sym, ap, subst, ◌∙◌}
use Rattle.run_facts.proofs.Common.{Rows, rows_after, IsSuper, width_of, given}
use Rattle.plan_rows.specs.Prelude.{MakesBlob}
use Rattle.selections.specs.Fair.{IsComplete}
use Rattle.store_steps.specs.Prelude.{Intent, is_in, released_by, rows_by, EachIsPlanned, AreTakenApart, HaveHomes, AreBlobsBelow, SpaceIsCounted, CanJoin, RowsPart, RowsGo, with_accepted, applied}
use Rattle.store_steps.specs.RowsGo as rows
use Rattle.space_facts.proofs.Prelude.{rows_append, rows_by_ops, each_joined, apart_joined, homes_joined, below_joined, each_alike, rows_alike, apart_alike, homes_alike, below_alike, homes_committed, below_committed, each_committed, good_committed, apart_committed, counted_alike, counted_joined, counted_committed, good_switched, planned_switched}
use Rattle.run_facts.specs.Prelude.{IsSpaceOf, AreRowsKept}
use Rattle.run_facts.proofs.SpaceUnits.{data_within}
use Rattle.run_facts.proofs.Holds.{nothing_is_held, holds_taken, holds_given}

-- one that joins must be one that can, and makes blobs with the next numbers
abbrev pub MayGo : (p : RowsPart) {q : RowsPart} → RowsGo p q → Type 0
MayGo p (rows.joins x more is) =
    CanJoin p.sup p.rows p.intents x × ((sbid : ℕ) → MakesBlob (rows_by p.rows p.intents) x.ops sbid → sbid < p.next + more)
MayGo p other = Unit {0}

module _ (p : RowsPart) (limits : IsSuper p.sup) (space : IsSpaceOf p.sup p.space) (kept : AreRowsKept p) where
  join_keeps : (x : Intent) (more : ℕ) → CanJoin p.sup p.rows p.intents x
      → ((sbid : ℕ) → MakesBlob (rows_by p.rows p.intents) x.ops sbid → sbid < p.next + more) → AreRowsKept (with_accepted x more p)
  join_keeps x more can makes = record {
    submitted = ap (λ r. rows_after r x.ops) kept.submitted ∙ sym (rows_append p.rows p.intents (x ∷ []));
    good = kept.good;
    planned = each_joined p.sup p.rows p.intents x limits kept.good kept.planned kept.apart kept.homes can;
    apart = apart_joined p.sup p.rows p.intents x limits kept.good kept.planned kept.apart kept.homes can;
    counted = counted_joined p.sup p.rows p.intents x p.space (λ u on. data_within p.sup p.space u space on) can kept.counted;
    held = λ u on.
        holds_taken (map (λ f. f.unit) x.fresh) p.space u ∙ kept.held u on ∙ nothing_is_held p.submitted u
        ∙ sym (nothing_is_held (rows_after p.submitted x.ops) u);
    homes = homes_joined p.sup p.rows p.intents x limits kept.good kept.planned kept.apart kept.homes can;
    blobs = below_joined p.next more p.rows p.intents x kept.blobs makes;
  }

  reorder_keeps : (later : List Intent) → IsComplete is_in p.intents later → AreRowsKept (record p { intents = later })
  reorder_keeps later complete = record {
    submitted = kept.submitted ∙ rows_alike p.sup p.rows p.intents later complete kept.good kept.homes;
    good = kept.good;
    planned = each_alike p.sup p.rows p.intents later complete kept.planned;
    apart = apart_alike p.rows p.intents later complete kept.apart;
    counted = counted_alike p.sup p.rows p.intents later p.space complete kept.counted;
    held = kept.held;
    homes = homes_alike (width_of p.sup) p.rows p.intents later complete kept.homes;
    blobs = below_alike p.next p.rows p.intents later complete kept.blobs;
  }

  module _ (number : ℕ) (front back : List Intent) (both : p.intents ≡ front ++ back) where
    planned : EachIsPlanned p.sup p.rows (front ++ back)
    planned = subst (EachIsPlanned p.sup p.rows) both kept.planned

    apart : AreTakenApart p.rows (front ++ back)
    apart = subst (AreTakenApart p.rows) both kept.apart

    counted : SpaceIsCounted p.sup p.rows (front ++ back) p.space
    counted = subst (λ xs. SpaceIsCounted p.sup p.rows xs p.space) both kept.counted

    homes : HaveHomes (width_of p.sup) p.rows (front ++ back)
    homes = subst (HaveHomes (width_of p.sup) p.rows) both kept.homes

    blobs : AreBlobsBelow p.next p.rows (front ++ back)
    blobs = subst (AreBlobsBelow p.next p.rows) both kept.blobs

    abbrev with_rows : Rows → RowsPart
    with_rows r = record p {
      rows = r;
      intents = back;
      space = given p.space (released_by front);
      tail = (applied number front back p).tail;
      reserved = (applied number front back p).reserved;
    }

    apply_keeps : AreRowsKept (applied number front back p)
    apply_keeps = subst (λ r. AreRowsKept (with_rows r)) (sym (rows_by_ops p.rows front)) (record {
      submitted = kept.submitted ∙ ap (rows_by p.rows) both ∙ rows_append p.rows front back;
      good = good_committed p.sup p.rows front back kept.good planned;
      planned = each_committed p.sup p.rows front back planned;
      apart = apart_committed p.sup p.rows front back kept.good planned apart limits;
      counted = counted_committed p.sup p.rows front back kept.good planned apart homes limits p.space (λ u on. data_within p.sup p.space u space on)
          counted;
      held = λ u on. holds_given (released_by front) p.space u ∙ kept.held u on;
      homes = homes_committed p.sup p.rows front back kept.good planned homes;
      blobs = below_committed p.next p.rows front back blobs;
    })

pub rows_go : (p q : RowsPart) (goes : RowsGo p q) → IsSuper p.sup → IsSpaceOf p.sup p.space → MayGo p goes → AreRowsKept p → AreRowsKept q
rows_go p q (rows.same is) limits space may kept = subst AreRowsKept (sym is) kept
rows_go p q (rows.joins x more is) limits space may kept = subst AreRowsKept (sym is) (join_keeps p limits space kept x more may.0 may.1)
rows_go p q (rows.reorders later complete is) limits space may kept = subst AreRowsKept (sym is) (reorder_keeps p limits space kept later complete)
rows_go p q (rows.applies number front back both fits is) limits space may kept =
    subst AreRowsKept (sym is) (apply_keeps p limits space kept number front back both)
rows_go p q (rows.switches number next is) limits space may kept = subst AreRowsKept (sym is) (record {
  submitted = kept.submitted;
  good = good_switched p.sup number p.rows kept.good;
  planned = planned_switched p.sup number p.rows p.intents kept.planned;
  apart = kept.apart;
  counted = kept.counted;
  held = kept.held;
  homes = kept.homes;
  blobs = kept.blobs;
})
