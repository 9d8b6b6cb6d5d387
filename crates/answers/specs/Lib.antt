pub mod Reply
pub mod Rows
pub mod Calls
pub mod Opened
