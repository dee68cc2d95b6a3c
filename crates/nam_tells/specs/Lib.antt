pub mod Teller
pub mod Steps
pub mod TellsLaw
pub mod EndsLaw
pub mod AskedLaw
pub mod Logs
