pub mod Expensing
