pub mod StandingFacts
pub mod CreateFacts
pub mod InsertFacts
pub mod ChangeFacts
pub mod SelectFacts
pub mod CountFacts
