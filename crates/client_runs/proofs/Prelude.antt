-- The lemmas that other crates cite, passed on from one place.
pub use Rattle.client_runs.proofs.RunLemmas.{leads_on, drawn_run}
pub use Rattle.client_runs.proofs.EndLemmas.{both_empty, no_command_left}
