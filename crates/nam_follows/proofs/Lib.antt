pub mod OwedLemmas
pub mod TryLemmas
pub mod TidyLemmas
pub mod AnswerLemmas
pub mod CutLemmas
pub mod FollowsExample
pub mod SessionLemmas
