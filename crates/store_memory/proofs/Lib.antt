pub mod CleanLemmas
pub mod EmptyLemmas
