pub mod Rows
pub mod Stretches
pub mod Calls
pub mod Pages
pub mod Example
