pub mod OldLemmas
pub mod CollectLemmas
pub mod ExchangeLemmas
pub mod MomentLemmas
