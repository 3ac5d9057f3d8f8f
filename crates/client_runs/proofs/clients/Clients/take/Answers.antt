use Rattle.std.proofs.Common.{◌≡◌, sym, refl, true}
use Rattle.client_runs.specs.Clients.{is_able}
use Rattle.client_runs.proofs.ClientLemmas.{takes_of, there_is, get_one, leaves_there, able_noted}
use Rattle.client_runs.proofs.clients.Clients.take.Goals as goal

pub note_able-requires-clause-there : goal.note_able-requires-clause-there
note_able-requires-clause-there c = λ could cannot.
    leaves_there c.args.client c.args.self.now.all.items c.args.self.now.able.items c.index_mut-it.result.now true c.requires.clients.able
    (there_is (λ k. is_able k ≡ true) c.args.client c.args.self.now.all.items c.requires.can)
    (sym (get_one (λ k. is_able k ≡ true) c.args.client c.args.self.now.all.items c.index_mut-it.result.now c.requires.can)) refl

pub returns-clause-taken : goal.returns-clause-taken
returns-clause-taken c =
    takes_of _ _ _ _ _ _ (there_is (λ k. is_able k ≡ true) _ _ c.requires.can) c.index_mut-it.ensures.value c.take-line.ensures

pub returns-clause-able : goal.returns-clause-able
returns-clause-able c =
    able_noted c.args.client c.args.self.now.all.items c.args.self.now.able.items c.index_mut-it.result.now true c.requires.clients.able
    (there_is (λ k. is_able k ≡ true) c.args.client c.args.self.now.all.items c.requires.can)
    (sym (get_one (λ k. is_able k ≡ true) c.args.client c.args.self.now.all.items c.index_mut-it.result.now c.requires.can)) c.take-line.new.self
    c.is_able-is.result _ _ c.is_able-is.ensures refl c.note_able.ensures
