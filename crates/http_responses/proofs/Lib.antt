pub mod ArrayLemmas
pub mod FloatLemmas
pub mod ImpactLemmas
pub mod VerdictLemmas
pub mod WaitingLemmas
pub mod OutageLemmas
