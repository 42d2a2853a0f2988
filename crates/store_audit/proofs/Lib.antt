mod AuditLemmas
mod BeginningLemmas
