pub mod Headers
pub mod Locking
pub mod LockingLaw
pub mod TakenLaw
pub mod Unlocking
pub mod UnlockingLaw
pub mod FieldLaw
pub mod MomentLaw
