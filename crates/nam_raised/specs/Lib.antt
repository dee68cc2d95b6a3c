pub mod Raised
pub mod RaisedLaw
pub mod OldLaw
