mod EventLemmas
mod LivingLemmas
mod RestartLemmas
pub mod RunLemmas
mod SeriesLemmas
