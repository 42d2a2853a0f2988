mod MigratedLemmas
mod DecidingLemmas
mod ActingLemmas
mod DeskLemmas
mod PastLemmas
