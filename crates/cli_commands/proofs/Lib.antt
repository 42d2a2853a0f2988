mod FaultLemmas
mod ForetellingLemmas
mod LineLemmas
