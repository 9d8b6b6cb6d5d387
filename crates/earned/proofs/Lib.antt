pub mod Shares
pub mod Adding
pub mod Measuring
pub mod Dating
