mod StepLemmas
mod RowLemmas
mod ChangeLemmas
mod WritesLemmas
pub mod ItemLemmas
