pub mod Answers
pub mod Given
pub mod Bodies
pub mod Desks
pub mod Laws
pub mod Tags
