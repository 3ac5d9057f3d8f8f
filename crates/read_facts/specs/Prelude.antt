-- What other crates and the proofs cite, passed on from one place.
pub use Rattle.read_facts.specs.Walks.{IsCollection, IsObject, IsBehind, IsNextOf, IsPast, AreNext, last_of, AreAll}
pub use Rattle.read_facts.specs.PageReads.{IsHeldAt, no_memory, IsRead, IsFound, IsGoodPage, hole, mapped, IsBadPage, AreGoodPages, IsFirstBad, AreGoodUnits, IsBadUnit, IsFirstBadUnit, read_end, pages_read, ReadsRange, FailsAt}
pub use Rattle.read_facts.specs.Refusals.{IsRefusedBy, IsNotRefused}
pub use Rattle.read_facts.specs.Answers.{HasReadNames, Gives, IsAnswerOf}
pub use Rattle.read_facts.specs.Alike.{IsAlike, IsAnsweredAlike, AnswersAlikeFrom, IsLegalButBytes, IsNoCsum}
pub use Rattle.read_facts.specs.Views.{IsValueOf, value_names, AreValues, sum_answer, IsViewOf, object_names, coll_names, IsViewed, IsWhole, AreWholeButLast, WalksTo, WalksAll, values_in, object_view, views_in, views_of, IsGoodView, HasGoodViews}
