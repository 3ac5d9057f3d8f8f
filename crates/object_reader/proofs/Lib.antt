pub mod ReadLemmas
pub mod AnswerLemmas
pub mod ValueRanges
pub mod FoundLemmas
