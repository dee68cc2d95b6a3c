pub mod Current
pub mod CurrentLaw
pub mod Recheck
pub mod RecheckLaw
pub mod ReadWords
pub mod WordsLaw
pub mod Install
pub mod InstallLaw
