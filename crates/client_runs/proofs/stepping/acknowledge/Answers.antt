use Rattle.std.proofs.Common.{List, ap, ◌∙◌, refl}
use Rattle.client_runs.specs.declared.client.Client.{Client}
use Rattle.client_runs.specs.Clients.{lefts, one_less}
use Rattle.client_runs.proofs.ClientLemmas.{lefts_same}
use Rattle.client_runs.proofs.StepLemmas.{some_under_way, finish_tied}
use Rattle.client_runs.proofs.stepping.acknowledge.Goals as goal

pub acknowledged-requires-clause-some : goal.acknowledged-requires-clause-some
acknowledged-requires-clause-some g c =
    some_under_way _ _ _ _ _ c.args.clients.now c.facts.ensures.kept c.requires.tied c.next_acknowledged-client.ensures c.in_ok-step.ensures.ok

pub returns-clause-tied : goal.returns-clause-tied
returns-clause-tied g c =
    finish_tied _ _ _ _ _ c.args.clients.now c.acknowledged.new.self c.facts.ensures.kept c.requires.ready c.requires.tied
    c.next_acknowledged-client.ensures c.in_ok-step.ensures.ok c.step.ensures.kept.always.device c.acknowledged.ensures.counted
    c.acknowledged.ensures.able

pub returns-clause-left : goal.returns-clause-left
returns-clause-left g c = ap (λ (l : List Client). lefts l) c.acknowledged.ensures.counted
    ∙ lefts_same c.next_acknowledged-client.result one_less c.args.clients.now.all.items (λ k. refl)
