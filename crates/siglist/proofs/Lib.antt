pub mod ChainLemmas
pub mod EntryLemmas
pub mod HeadLemmas
pub mod PackingLemmas
pub mod RowLemmas
pub mod SpeltLemmas
pub mod WritingLemmas
