pub mod Views
pub mod Refused
pub mod RefusedLaw
pub mod Lockers
pub mod LockersLaw
