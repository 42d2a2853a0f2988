-- Relations between the steps of a reading. No public contract names these words.
pub mod Front
