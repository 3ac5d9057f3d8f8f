use Rattle.log_replay.proofs.JudgeLemmas.{made_units, made_free, made_unheld}
use Rattle.log_replay.proofs.judging.free_units.Goals as goal

pub returns-clause-units : goal.returns-clause-units
returns-clause-units c =
    made_units c.new.result c.args.sup.now c.new-first.result c.new-end.result c.args.marked.now c.requires c.new-first.ensures c.new-end.ensures
    c.new.ensures

pub returns-clause-free : goal.returns-clause-free
returns-clause-free c =
    made_free c.new.result c.args.sup.now c.new-first.result c.new-end.result c.args.marked.now c.requires c.new-first.ensures c.new-end.ensures
    c.new.ensures

pub returns-clause-unheld : goal.returns-clause-unheld
returns-clause-unheld c = made_unheld c.new.result c.new-first.result c.new-end.result c.args.marked.now c.new.ensures
