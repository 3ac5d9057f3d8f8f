-- The lemmas that other crates cite, passed on from one place.
pub use Rattle.book_facts.proofs.Entries.{answers_push, alike_last, change_kept, change_last}
pub use Rattle.book_facts.proofs.Commits.{all_push, all_then, one_if, count_cons, places_acknowledged, changes_at}
pub use Rattle.book_facts.proofs.Queues.{entry_push}
pub use Rattle.book_facts.proofs.Books.{known_legal, book_opened}
pub use Rattle.book_facts.proofs.Order.{order_opened}
pub use Rattle.book_facts.proofs.Selecting.{has_coll, all_selected, stand_none}
pub use Rattle.book_facts.proofs.BookCalls.{book_call, book_run, order_run}
pub use Rattle.book_facts.proofs.Applied.{applied_by_places, applied_committed, batch_last, applied_entry, all_under_way}
pub use Rattle.book_facts.proofs.Rooms.{step_room, run_room}
pub use Rattle.book_facts.proofs.Demand.{want_is_beyond_the_demand}
