pub mod Leaves
pub mod Schedule
pub mod Stretches
pub mod Ways
