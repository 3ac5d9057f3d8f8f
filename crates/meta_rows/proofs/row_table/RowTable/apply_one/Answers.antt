use Rattle.std.proofs.Common.{◌≡◌, ◌-◌, ap, ◌∙◌, suc, subst, arith}
use Rattle.std.specs.FinMap as map
use Rattle.meta_rows.specs.Prelude.{row_after, list_size, joined, HasSpares}
use Rattle.meta_rows.proofs.PartLemmas.{after_is}
use Rattle.meta_rows.proofs.ListSizes.{kept_grows}
use Rattle.meta_rows.proofs.row_table.RowTable.apply_one.Goals as goal

pub invariant_of-self : goal.invariant_of-self
invariant_of-self c =
    let room : c.self.inside.room ≡ suc (c.self.inside.room - 1) = omega (arith, c.requires, ap (λ t. t.room) c.self.view_is) in (
      c.apply_one-more.ensures.chunked,
      c.apply_one-more.ensures.room (c.self.inside.room - 1) (subst (λ n. HasSpares n c.self.inside.all) room c.self.invariant.1),
      kept_grows c.self.inside.size (list_size (joined c.self.inside.all.list.items)) c.apply_one-more.result (list_size (joined c.apply_one-more.new.self.list.items))
          c.self.invariant.2 c.apply_one-more.ensures.grows,
    )

pub returns-clause-rows : goal.returns-clause-rows
returns-clause-rows c =
    ap (λ es. map.from_sorted es) c.apply_one-more.ensures.rows
    ∙ after_is (joined c.self.inside.all.list.items) c.self.invariant.0.order c.args.op
    ∙ ap (λ t. row_after t.rows c.args.op) c.self.view_is
