pub mod Covering
pub mod Dates
pub mod Days
