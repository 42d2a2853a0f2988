pub mod TextLemmas
pub mod HeadLemmas
pub mod BodyLemmas
pub mod EmptyLineLemmas
pub mod NumberLemmas
pub mod RouteLemmas
pub mod TagLemmas
mod FillingLemmas
