pub mod StoreLemmas
pub mod CheckLemmas
pub mod HoldsLemmas
pub mod PieceLemmas
