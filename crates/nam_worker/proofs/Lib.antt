mod KeysLemmas
mod DriverLemmas
pub mod CallAnswers
mod OpsCounted
mod SessionLemmas
mod AskingLemmas
pub mod MedicLemmas
mod SteppingLemmas
