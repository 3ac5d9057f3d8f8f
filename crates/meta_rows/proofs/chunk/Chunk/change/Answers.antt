use Rattle.std.proofs.Common.{ap, sym, ◌∙◌, T, subst}
use Rattle.std.specs.FinMap.{is_sorted}
use Rattle.byte_maps.specs.ByteMap.{byte_order}
use Rattle.byte_maps.proofs.Prelude.{found, absent}
use Rattle.meta_rows.specs.Prelude.{key_of, entries_after, IsKeyPlace}
use Rattle.meta_rows.proofs.PartLemmas.{left_after, come_after}
use Rattle.meta_rows.proofs.chunk.Chunk.change.Goals as goal

pub returns-in-Ok-clause-rows : goal.returns-in-Ok-clause-rows
returns-in-Ok-clause-rows c =
    let order = subst (λ es. T (is_sorted byte_order es)) (sym c.self.view_is) c.requires.order in
    let p = subst (λ place. IsKeyPlace (key_of c.args.op) c.args.self.now place) c.in-Ok.is c.requires.place in
    let s = found (key_of c.args.op) c.args.self.now _ c.in-Ok.at (sym c.self.view_is) order p.0 p.1 in
    c.change_there.ensures.rows
    ∙ left_after c.args.op c.self.inside.rows.items c.in-Ok.at s
    ∙ ap (λ es. entries_after es c.args.op) c.self.view_is

pub returns-in-Err-clause-rows : goal.returns-in-Err-clause-rows
returns-in-Err-clause-rows c =
    let order = subst (λ es. T (is_sorted byte_order es)) (sym c.self.view_is) c.requires.order in
    let p = subst (λ place. IsKeyPlace (key_of c.args.op) c.args.self.now place) c.in-Err.is c.requires.place in
    let s = absent (key_of c.args.op) c.args.self.now _ c.in-Err.at (sym c.self.view_is) order p.0 p.1 in
    c.come_in.ensures.rows
    ∙ come_after c.args.op c.self.inside.rows.items c.in-Err.at s
    ∙ ap (λ es. entries_after es c.args.op) c.self.view_is
