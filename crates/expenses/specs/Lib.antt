pub mod Expensed
