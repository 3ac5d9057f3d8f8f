use Rattle.client_runs.proofs.CommandLemmas.{known_ops, not_turned_away, submitted_ends, submit_rose}
use Rattle.client_runs.proofs.commands.submit.Goals as goal

pub submit-submitted-requires : goal.submit-submitted-requires
submit-submitted-requires g c = known_ops c.args.txn.ops c.requires.fits

pub noted-end-requires : goal.noted-end-requires
noted-end-requires g c = not_turned_away c.args.client c.args.line c.args.txn c.submit-submitted.result _ _ _ c.requires.up c.requires.room
    c.submit-submitted.ensures.refused

pub returns-clause-made : goal.returns-clause-made
returns-clause-made g c =
    submitted_ends c.args.client c.args.line c.args.txn c.submit-submitted.result c.noted-end.result _ _ _ _ c.requires.up
    (known_ops c.args.txn.ops c.requires.fits)
    c.submit-submitted.ensures.disk c.submit-submitted.ensures.accepted c.submit-submitted.ensures.refused c.noted-end.ensures

pub returns-clause-cause : goal.returns-clause-cause
returns-clause-cause g c = submit_rose c.submit-submitted.result c.noted-end.result _ c.submit-submitted.ensures.cause c.noted-end.ensures
