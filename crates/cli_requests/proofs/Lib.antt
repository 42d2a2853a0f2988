mod LivingLemmas
mod ServingLemmas
