pub mod TurnLemmas
pub mod CallLemmas
