pub mod Items
pub mod Listing
pub mod Numbered
pub mod Reading
