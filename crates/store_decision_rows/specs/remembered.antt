pub mod Current
pub mod Steps
