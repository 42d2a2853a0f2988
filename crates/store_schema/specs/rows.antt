pub mod Values
pub mod Contents
pub mod Columns
pub mod Worked
pub mod Histories
pub mod WorkedFirst
