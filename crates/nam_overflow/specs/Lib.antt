pub mod Search
pub mod SearchLaw
pub mod Claim
pub mod ClaimLaw
pub mod Fill
pub mod FillLaw
