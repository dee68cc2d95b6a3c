mod ScanLemmas
mod AnswerLemmas
