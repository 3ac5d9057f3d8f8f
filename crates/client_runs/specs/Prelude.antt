-- What other crates and the proofs cite, passed on from one place.
pub use Rattle.client_runs.specs.Choice.{Ask, asked, asks_from, asks_of, is_accepted_of, unacked_from, unacked, may_ask, call_of, next_call, client_calls, possible_calls, turned, IsDrawnOf, scripts_behind, asks_after, Position, at_position, calls_at, Draws, IsDrawnRun, LeadsTo}
unfoldable pub use Rattle.client_runs.specs.Choice.{ready_list}
pub use Rattle.client_runs.specs.Running.{empty_book, IsNew, FitsLine, command_sum, Asked, asked_in, asked_by, entries_of, AskedUpTo, EachAskedUpTo, AreAsked, LosesRead, CallTakesMemory, LacksMemory, EndsAs, EndsAfterRead, HasNotBegun, EndsRun, HasDrainedAfterRead, RunsUpTo}
pub use Rattle.client_runs.specs.Clients.{asks_left, left_of, lefts, IsAtCommand, IsClient, IsNewClient, is_able, TakesLine, one_more, one_less, able_of, below, able_after, changed, IsOfOne, AreClients, AreNewClients, TakesOf, AreCounts, AreOfClients, AreTied, FitsAsk, EachFits}
pub use Rattle.client_runs.specs.Standing.{IsItem, IsDrawnFrom, IsNothing, position_of, IsAckedNext, StepsOn, DrawsClient, DrawsNothing, FindsClient, StopsAs, IsNotTurnedAway, IsNoted, IsNotNoted, IsNoTurnAway, IsReplied, IsFailOf, IsMade, IsUnmade, AsksNext, AsksInVain, fail_of, EndsClients, RunsClients, DrainsAfterRead, WindsUp}
