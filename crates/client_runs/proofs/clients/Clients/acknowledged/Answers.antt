use Rattle.std.proofs.Common.{◌∙◌, ap, refl, ◌<◌}
use Rattle.client_runs.specs.Clients.{is_able, one_less}
use Rattle.client_runs.proofs.ClientLemmas.{there_is, set_by, joins_within, able_noted}
use Rattle.client_runs.proofs.clients.Clients.acknowledged.Goals as goal

pub note_able-requires-clause-room : goal.note_able-requires-clause-room
note_able-requires-clause-room c = λ could_not can.
    joins_within c.args.client c.args.self.now.all.items c.args.self.now.able.items c.index_mut-it.result.now c.is_able-was.result c.requires.clients.able
    (there_is (λ k. 0 < k.unacked) c.args.client c.args.self.now.all.items c.requires.some)
    (c.is_able-was.ensures ∙ ap is_able c.index_mut-it.ensures.value) could_not c.requires.clients.few

pub returns-clause-counted : goal.returns-clause-counted
returns-clause-counted c =
    set_by (λ k. 0 < k.unacked) one_less _ _ _ _ _ c.requires.some c.index_mut-it.ensures.value c.count_acknowledged.ensures

pub returns-clause-able : goal.returns-clause-able
returns-clause-able c =
    able_noted c.args.client c.args.self.now.all.items c.args.self.now.able.items c.index_mut-it.result.now c.is_able-was.result c.requires.clients.able
    (there_is (λ k. 0 < k.unacked) c.args.client c.args.self.now.all.items c.requires.some)
    (c.is_able-was.ensures ∙ ap is_able c.index_mut-it.ensures.value) c.count_acknowledged.new.self c.is_able-is.result _ _ c.is_able-is.ensures refl
    c.note_able.ensures
