-- What other crates and the proofs cite, passed on from one place.
pub use Rattle.book_facts.specs.BookFacts.{places, commit_places, intents_on, IsOfEntry, AreCommits, AreQueued, IsBookKnown, KnownOfBook, KnownOfOrder, IsInOrder}
pub use Rattle.book_facts.specs.Selections.{IsFairSelection, changes_of, applied_changes, SelectionsStand}
pub use Rattle.book_facts.specs.Rooms.{units_taken_by, units_taken_at_most, units_asked, demand_of, demanded_by, is_no_space, any_no_space, need_if_accepted, needs_in}
