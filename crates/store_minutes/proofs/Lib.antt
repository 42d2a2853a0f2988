mod ComparingLemmas
pub mod FollowingLemmas
pub mod LineLemmas
pub mod StartLemmas
