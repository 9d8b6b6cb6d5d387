pub mod Reading
pub mod Turns
pub mod Nothing
pub mod Planned
