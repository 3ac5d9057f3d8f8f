use Rattle.std.proofs.Common.{◌≡◌, ℕ, List, ◌∷◌, length, subst, ap, sym, ◌∙◌, arith}
use Rattle.std.specs.Prelude.{◌==◌, ◌++◌}
use Rattle.extent_shards.specs.Prelude.{shard_bytes}
use Rattle.txn_planner.specs.Laying.{with_shard}
use Rattle.txn_planner.proofs.Cuts.{cut, AreLeft, first_put, next_put}
use Rattle.txn_planner.proofs.shard_rows.put_shards.Goals.{then-left-pages+in_ok-insert, else-left-pages}
use Rattle.txn_planner.proofs.shard_rows.put_shards.Goals as goal

pub shards-preserved : goal.shards-preserved
shards-preserved c =
    let w = c.args.width in
    let rows = c.args.rows.now.rows in
    let coll = c.args.coll.now in
    let object = c.args.object.now in
    let pages = c.args.pages.now in
    let left = c.shards.left.now in
    let old = c.args.changes.now in
    let now = c.shards.changes in
    let wrote = c.in_ok-front.ensures in
    let value : c.as_slice.result.now ≡ shard_bytes w wrote.shard =
    c.as_slice.ensures.value ∙ wrote.written ∙ ap (λ (l : List ℕ). l ++ shard_bytes w wrote.shard) c.clear.ensures.items in
    let put : c.put_shard.new.changes ≡ with_shard w rows coll object (c.in_ok-front.front.count == length pages) wrote.shard now =
    c.in_ok-put_shard.ensures.put w wrote.shard wrote.begins value in
    record {
      left = elim c.if-left-pages.branch [
        | then-left-pages+in_ok-insert b ↦
            next_put w rows coll object pages left c.pages_behind-left.result.now c.shards.behind old now c.shards.invariant.left wrote.shard
            c.in_ok-front.front.count wrote.some wrote.within c.pages_behind-left.ensures
            (wrote.first ∙ ap (λ l. wrote.shard ∷ cut w l) (sym c.pages_behind-left.ensures)) c.in_ok-front.front.first c.if-left-pages.behind
            c.put_shard.new.changes b.if-left-pages.true wrote.begins (b.behind-is ∙ b.in_ok-insert.ensures.ok) put
        | else-left-pages b ↦ subst (λ s. AreLeft w rows coll object pages c.pages_behind-left.result.now s old c.put_shard.new.changes) (sym b.behind-is)
            (first_put w rows coll object pages left c.pages_behind-left.result.now c.shards.behind old now c.shards.invariant.left wrote.shard
            c.in_ok-front.front.count wrote.some wrote.within c.pages_behind-left.ensures
            (wrote.first ∙ ap (λ l. wrote.shard ∷ cut w l) (sym c.pages_behind-left.ensures)) c.put_shard.new.changes
            (λ less. absurd (omega (arith, less, b.if-left-pages.false))) put)
      ];
      beside = c.in_ok-put_shard.ensures.beside;
    }
