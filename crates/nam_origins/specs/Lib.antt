pub mod Goes
pub mod OriginsLaw
pub mod Logs
pub mod Lists
pub mod ListedLaw
