mod ListedFindLemmas
mod GatherLemmas
mod KeyLemmas
mod OrderLemmas
mod ShownLemmas
mod StepLemmas
pub mod ListedLemmas
pub mod SizeLemmas
mod StampLemmas
mod FindLemmas
mod LearningLemmas
mod NamedLemmas
mod ConfirmLemmas
