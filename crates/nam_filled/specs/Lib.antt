pub mod Holders
pub mod Moves
pub mod Filled
pub mod Turn
pub mod FilledLaw
pub mod Taken
pub mod TakenLaw
