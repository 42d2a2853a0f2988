pub mod BarLemmas
pub mod BroughtLemmas
pub mod FoundLemmas
pub mod LoopLemmas
pub mod PassLemmas
mod QueryLemmas
pub mod ReaderLemmas
pub mod TellsLemmas
