pub mod Common
pub mod Groups
pub mod Marks
pub mod Signed
