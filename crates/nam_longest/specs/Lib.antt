pub mod Longest
pub mod LongestLaw
pub mod Deletions
