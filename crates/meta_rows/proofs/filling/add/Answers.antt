use Rattle.std.proofs.Common.{◌∙◌, refl, arith}
use Rattle.meta_rows.proofs.FillLemmas.{last_short, added_last}
use Rattle.meta_rows.proofs.filling.add.Goals as goal

pub push-requires : goal.push-requires
push-requires c = last_short c.args.into.now.list.items c.pop.new.self.items c.in-Some.last c.in-Some.ensures.items c.requires.gap

pub returns : goal.returns
returns c = added_last c.args.row c.args.into.now _ c.pop.new.self.items c.in-Some.last c.push.new.self c.requires.shaped c.requires.gap c.in-Some.ensures.items c.push.ensures
    c.push_reserved.ensures.items refl (omega (arith, c.in-Some.ensures.len, c.push_reserved.ensures.len)) (c.push_reserved.ensures.capacity ∙ c.in-Some.ensures.capacity)
