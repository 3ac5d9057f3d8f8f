use Rattle.std.proofs.Common.{◌≡◌, ◌+◌, ◌∷◌, List, drop, sym, subst, ap, ◌∙◌}
use Rattle.std.specs.List.{AllByRecursion}
use Rattle.row_format.specs.Prelude.{Extent}
use Rattle.row_check.specs.Tallies.{Tallies, extents_tallied, HasPlaces}
use Rattle.row_check.proofs.Naming.{drop_one, all_bodies_still}
use Rattle.row_check.proofs.tallies.Tallies.name_all.Goals as goal

pub name-requires : goal.name-requires
name-requires c =
    let es = c.args.extents.now in
    let i = c.loop-extent.extent-index in
    let e : Extent = c.extent-item.result in
    let split : drop i es ≡ e ∷ drop (i + 1) es = drop_one es i e c.loop-extent-test.true c.extent-item.is in
    (subst (λ (l : List Extent). AllByRecursion (λ x. HasPlaces c.loop-extent.self x.body) l) split c.loop-extent.invariant.places).0

pub loop-extent-preserved : goal.loop-extent-preserved
loop-extent-preserved c =
    let es = c.args.extents.now in
    let i = c.loop-extent.extent-index in
    let e : Extent = c.extent-item.result in
    let t : Tallies = c.loop-extent.self in
    let split : drop i es ≡ e ∷ drop (i + 1) es = drop_one es i e c.loop-extent-test.true c.extent-item.is in
    let all = subst (λ (l : List Extent). AllByRecursion (λ x. HasPlaces t x.body) l) split c.loop-extent.invariant.places in
    record {
      so_far = ap (λ (n : Tallies). extents_tallied n (drop (i + 1) es)) c.in_ok-name.ensures ∙ sym (ap (extents_tallied t) split) ∙ c.loop-extent.invariant.so_far;
      places = subst (λ (n : Tallies). AllByRecursion (λ x. HasPlaces n x.body) (drop (i + 1) es)) (sym c.in_ok-name.ensures)
          (all_bodies_still t e.body (drop (i + 1) es) all.0 all.1);
    }
