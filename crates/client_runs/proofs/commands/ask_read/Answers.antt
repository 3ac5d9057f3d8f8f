use Rattle.client_runs.proofs.CommandLemmas.{no_turn_away, replied_ends, read_rose}
use Rattle.client_runs.proofs.commands.ask_read.Goals as goal

pub replied-end-requires : goal.replied-end-requires
replied-end-requires g c = no_turn_away c.args.read c.ask-answered.result _ _ c.requires.up c.requires.room c.ask-answered.ensures.unanswered

pub returns-clause-made : goal.returns-clause-made
returns-clause-made g c =
    replied_ends c.args.client c.args.line c.args.read c.ask-answered.result c.replied-end.result _ _ _ _ c.requires.up
    c.ask-answered.ensures.disk c.ask-answered.ensures.answered c.ask-answered.ensures.unanswered c.replied-end.ensures

pub returns-clause-cause : goal.returns-clause-cause
returns-clause-cause g c = read_rose c.ask-answered.result c.replied-end.result _ c.ask-answered.ensures.cause c.replied-end.ensures
