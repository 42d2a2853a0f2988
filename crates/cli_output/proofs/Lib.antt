pub mod EachLemmas
mod FileLemmas
pub mod LineLemmas
