use Rattle.std.proofs.Common.{ap, ◌∙◌}
use Rattle.plan_drafts.specs.Prelude.{or_empty, size_at}
use Rattle.txn_planner.proofs.Firsts.{kept_first, one_layout}
use Rattle.txn_planner.proofs.touched.load.Goals as goal

pub returns : goal.returns
returns c layout has =
    let state = c.in_ok-before.ensures in
    let is = one_layout c.args.width c.args.rows.now.rows c.args.coll.now c.args.object.now state.layout layout state.has has in
    let size = state.size_is ∙ ap size_at is in
    let pages = state.pages_are ∙ ap (λ l. (or_empty l).pages) is in
    record {
      named = c.name_is_one.ensures;
      before = size;
      shards = state.are_shards;
      now_is = c.standing_draft-now.ensures layout size pages;
      kept = λ none. kept_first layout;
      gone = λ left. absurd cc;
    }
