pub mod Sections
pub mod Elements
