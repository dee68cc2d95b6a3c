pub mod CurrentLemmas
pub mod RecordLemmas
pub mod FieldLemmas
