pub mod Assigned
pub mod Expensed
