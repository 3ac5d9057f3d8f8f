-- What other crates and the proofs cite, passed on from one place.
pub use Rattle.script_text.specs.Grammar.{HasNo, EachIsByte, AreWords, in_words, hex_digit_from, IsNumber, is_plain, escaped, IsNameWord, IsFill, IsDataWord, op_word, AreObjectArgs, AreWriteArgs, AreRangeArgs, AreSizeArgs, AreNameArgs, AreDataArgs, AreAttrArgs, AreKeyRangeArgs, AreKeyWords, ArePairWords, AreKeysArgs, ArePairsArgs, AreArgs, AreChangeWords, AreReadWords, AreObjectWords, AreValueWords, AreListWords, AreWordsOfRead, AreWordsOf, IsKnownChangeOp, IsKnownChange, FitsWhat, IsLineOf, op_line, command_count, is_wait, IsPassedOver}
unfoldable pub use Rattle.script_text.specs.Grammar.{spelled_by, hex_pair, escape}
pub use Rattle.script_text.specs.Kept.{IsNoChange}
pub use Rattle.script_text.specs.Blocks.{command_limit, Says, EachSays, Parse, start, one_command_more, statement_counted, ends_in_wait, kept_behind, with_line, with_block, with_ended, together, parse_after}
unfoldable pub use Rattle.script_text.specs.Blocks.{outside, inside, next}
pub use Rattle.script_text.specs.Script.{script_limit, line_limit, onto, lines_of, ended, commands, AreGood, IsScript, IsOutside, IsMisplaced, IsPastLimit, IsBad, IsBadLine, IsUnended, IsBadAt, IsTextOf}
pub use Rattle.script_text.specs.Reading.{IsPlainNumber, Finds, AreGoodWords, NamesObject, NamesRange, NamesSize, HasArgs, NamesValue, NamesHeader, NamesAttr, NamesKeyRange, NamesKeys, NamesPairs, SpellsKeys, SpellsPairs, SpellsPair, StandBefore, IsOtherThanWhole, IsLaterWord, Becomes, IsBadBehind, Ends, IsReadSoFar, IsAfter, TakesPiece, HasTaken, IsReadFrom, ReadingEnds, WasReadUpTo, IsReadingOn, WasRead, IfLine, AreAllGood, IsAtEnd}
pub use Rattle.script_text.specs.About.{coll_word, coll_says, object_word, object_says, value_word, value_says}
