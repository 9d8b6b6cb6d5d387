pub mod Months
pub mod Table
