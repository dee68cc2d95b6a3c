pub mod SightLemmas
pub mod AddLemmas
pub mod StayLemmas
pub mod CommitLemmas
pub mod PublishLemmas
pub mod StoreLemmas
pub mod OpeningLemmas
pub mod CircleLemmas
