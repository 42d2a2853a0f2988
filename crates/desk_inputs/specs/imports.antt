pub mod Entries
pub mod Faults
pub mod FromCsv
pub mod FromLevel
pub mod FromLists
pub mod Gathering
pub mod Items
pub mod Records
