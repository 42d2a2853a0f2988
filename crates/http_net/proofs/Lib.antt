pub mod LivingLemmas
pub mod ReadingOffLemmas
pub mod TurnLemmas
