pub mod BayLemmas
