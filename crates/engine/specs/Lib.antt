pub mod Demand
pub mod Lines
