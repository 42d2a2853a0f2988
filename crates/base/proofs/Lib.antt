pub mod DigestLemmas
pub mod ElementLemmas
pub mod GuidLemmas
pub mod LineLemmas
pub mod NamedLemmas
pub mod OrderLemmas
pub mod OutputLemmas
pub mod RefusalLemmas
