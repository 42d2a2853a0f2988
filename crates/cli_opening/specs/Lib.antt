pub mod Closing
pub mod Faults
pub mod Leaving
pub mod Opening
pub mod Pages
pub mod Refusing
pub mod Unopened
pub mod Works
