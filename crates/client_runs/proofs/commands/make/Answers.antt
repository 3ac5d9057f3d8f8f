use Rattle.client_runs.proofs.commands.make.Goals as goal

pub submit-requires-clause-fits : goal.submit-requires-clause-fits
submit-requires-clause-fits g c = rw c.in-Change.is at c.requires.fits

pub returns-in-Change-clause-made : goal.returns-in-Change-clause-made
returns-in-Change-clause-made g c = rw c.in-Change.is c.submit.ensures.made
