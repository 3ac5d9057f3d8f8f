pub mod DurableLemmas
pub mod RestLemmas
pub mod MountingLemmas
pub mod MountLemmas
pub mod MountedLemmas
