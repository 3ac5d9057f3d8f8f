use Rattle.script_text.proofs.Words.{no_stand, one_stands}
use Rattle.script_text.proofs.split.words_before.Goals as goal

pub returns-in_default : goal.returns-in_default
returns-in_default c a b rest is = no_stand c.args.text.now a b rest c.in_default.ensures is

pub returns-in_default-split_once : goal.returns-in_default-split_once
returns-in_default-split_once c a b rest is =
    one_stands c.args.text.now c.in-Some.first.now c.in-Some.rest.now a b rest c.in-Some.ensures.0 c.in-Some.ensures.1 c.in_default-split_once.ensures is
