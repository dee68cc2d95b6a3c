pub mod MedicLemmas
