pub mod Assigning
pub mod Expensing
