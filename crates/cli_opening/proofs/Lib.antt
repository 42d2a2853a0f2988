pub mod EndingLemmas
mod CommitLemmas
mod OpeningLemmas
mod UnopenedLemmas
