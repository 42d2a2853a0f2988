pub mod NameLemmas
pub mod HistoryLemmas
pub mod MigrationLemmas
