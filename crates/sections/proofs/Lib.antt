pub mod Lists
pub mod Filled
pub mod Limits
pub mod Marks
