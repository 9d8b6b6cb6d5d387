pub mod Changed
pub mod Days
pub mod Completion
