use Rattle.clap.specs.Words.{subcommand_rows_of}
use Rattle.command_words.specs.CommandLine.{words_of}
use Rattle.command_words.proofs.Taken.{unspelled}
use Rattle.command_words.proofs.TakenLines.{taken_spells}
use Rattle.command_words.proofs.command_line.read_words.Goals as goal

pub unreachable-requires : goal.unreachable-requires
unreachable-requires c =
    let words = words_of c.args.words.now in
    let line = taken_spells words c.in_ok-matches.ensures.0 in
    unspelled words (subcommand_rows_of c.in_ok-matches.matches) c.in_ok-matches.ensures.1 c.in-None.ensures line.0 line.1
