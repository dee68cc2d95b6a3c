pub mod EntryLemmas
pub mod StayLemmas
pub mod HorizonLemmas
pub mod TellerLemmas
pub mod SnapLemmas
pub mod StoreLemmas
pub mod BehindLemmas
pub mod AnswerLemmas
pub mod OldLemmas
pub mod CauseLemmas
mod RaisedExample
