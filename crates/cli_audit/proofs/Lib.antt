pub mod AuditLemmas
mod ReadingLemmas
mod WritingLemmas
