use Rattle.std.proofs.Common.{◌∙◌, ap, sym, refl, ◌<◌, Bool}
use Rattle.std.specs.Prelude.{if◌then◌else◌}
use Rattle.client_runs.specs.Clients.{is_able, one_more, changed}
use Rattle.client_runs.proofs.ClientLemmas.{there_is, set_by, leaves_there, able_noted}
use Rattle.client_runs.proofs.clients.Clients.made.Goals as goal

pub note_able-requires-clause-there : goal.note_able-requires-clause-there
note_able-requires-clause-there c = λ could cannot.
    leaves_there c.args.client c.args.self.now.all.items c.args.self.now.able.items c.index_mut-it.result.now c.is_able-was.result c.requires.clients.able
    (there_is (λ k. k.unacked < 4294967295) c.args.client c.args.self.now.all.items c.requires.room)
    (c.is_able-was.ensures ∙ ap is_able c.index_mut-it.ensures.value) could

pub returns-then-accepted-clause-counted : goal.returns-then-accepted-clause-counted
returns-then-accepted-clause-counted c =
    set_by (λ k. k.unacked < 4294967295) one_more _ _ _ _ _ c.requires.room c.index_mut-it.ensures.value c.count_accepted.ensures
    ∙ ap (λ (b : Bool). if b then changed c.args.client one_more c.args.self.now.all.items else c.args.self.now.all.items) (sym c.if-accepted.true)

pub returns-then-accepted-clause-able : goal.returns-then-accepted-clause-able
returns-then-accepted-clause-able c =
    able_noted c.args.client c.args.self.now.all.items c.args.self.now.able.items c.index_mut-it.result.now c.is_able-was.result c.requires.clients.able
    (there_is (λ k. k.unacked < 4294967295) c.args.client c.args.self.now.all.items c.requires.room)
    (c.is_able-was.ensures ∙ ap is_able c.index_mut-it.ensures.value) c.count_accepted.new.self c.is_able-is.result _ _ c.is_able-is.ensures refl
    c.note_able.ensures
