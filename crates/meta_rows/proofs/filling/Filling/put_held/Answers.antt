use Rattle.std.proofs.Common.{◌∙◌, refl, sym}
use Rattle.meta_rows.proofs.FillLemmas.{put_behind}
use Rattle.meta_rows.proofs.filling.Filling.put_held.Goals as goal

pub returns-clause-state : goal.returns-clause-state
returns-clause-state c =
    (put_behind c.in-Some.row c.args.self.now _ c.requires.state (sym c.take.ensures.value ∙ c.in-Some.is) c.take.ensures.after c.append.ensures c.row_size.result c.row_size.ensures refl).1
