pub mod Collect
pub mod Old
pub mod CollectLaw
pub mod MomentLaw
pub mod OldLaw
