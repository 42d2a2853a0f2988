pub mod Gathering
pub mod Lists
