mod BesideLemmas
mod FoundingLemmas
mod RememberedLemmas
mod StampLemmas
mod OpeningLemmas
mod VersionLemmas
mod ActingLemmas
mod CommitLemmas
mod DeskLemmas
mod ClosingLemmas
mod ShowingLemmas
mod PersonLemmas
mod QuestionLemmas
pub mod ReopeningLemmas
pub mod LivingLemmas
pub mod FilesLemmas
mod RestartLemmas
mod StreamLemmas
mod ImpactLemmas
mod OwnerLemmas
mod OwnedLemmas
mod RefusalLemmas
mod ReadingLemmas
mod MemoryLemmas
mod AnsweringLemmas
