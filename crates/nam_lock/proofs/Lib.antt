pub mod HeadersLemmas
pub mod LockingLemmas
pub mod TakenLemmas
pub mod UnlockingLemmas
pub mod FieldLemmas
pub mod MomentLemmas
