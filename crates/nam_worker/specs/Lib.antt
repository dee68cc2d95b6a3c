pub mod Answering
pub mod Driving
pub mod Needs
pub mod CallAnswers
pub mod Session
