mod HistoryLemmas
mod SerialLemmas
mod PolicyLemmas
mod SerialRunLemmas
mod WholeRunLemmas
mod SerialFitsLemmas
mod EvaluateLemmas
mod NamedLemmas
mod StoreLemmas
mod ServeLemmas
mod TopLemmas
pub mod ScriptLemmas
