mod MoveLemmas
mod ClaimedLemmas
mod OrderLemmas
