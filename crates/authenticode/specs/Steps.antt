-- Relations between the steps of the walk. No public contract names these words.
pub mod Adding
