pub mod Demand
pub mod Example
pub mod Lines
