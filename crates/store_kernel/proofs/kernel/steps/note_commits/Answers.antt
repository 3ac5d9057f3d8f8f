use Rattle.std.proofs.Common.{◌++◌, ◌+◌, ◌∷◌, [], List, None, map, take, ap, ◌∙◌, arith}
use Rattle.object_model.specs.declared.book.Commit.{Commit}
use Rattle.store_steps.specs.Prelude.{commit_of}
use Rattle.store_kernel.proofs.Batches.{noted}
use Rattle.store_kernel.proofs.kernel.steps.note_commits.Goals as goal

pub push_reserved-requires : goal.push_reserved-requires
push_reserved-requires c =
    omega (arith, c.requires, c.loop-one.invariant.grown, c.loop-one.invariant.room, c.loop-one-test.true)

pub loop-one-preserved : goal.loop-one-preserved
loop-one-preserved c =
    let same = c.place.ensures in
    record {
      items = c.push_reserved.ensures.items
          ∙ ap (λ (cs : List Commit). cs ++ record { place = c.place.result; acked_at = None } ∷ []) c.loop-one.invariant.items
          ∙ ap (λ n. (c.args.commits.now.items ++ map commit_of (take c.loop-one.one-index c.args.queued.now)) ++ record { place = n; acked_at = None } ∷ []) same
          ∙ noted c.args.commits.now.items c.args.queued.now c.loop-one.one-index c.one-item.result c.loop-one-test.true c.one-item.is;
      grown = omega (arith, c.loop-one.invariant.grown, c.push_reserved.ensures.len);
      room = c.push_reserved.ensures.capacity ∙ c.loop-one.invariant.room;
    }
