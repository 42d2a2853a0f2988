pub mod BodyLemmas
pub mod CarriedLemmas
pub mod HashingLemmas
pub mod OutcomeLemmas
pub mod StepLemmas
pub mod SumsLemmas
