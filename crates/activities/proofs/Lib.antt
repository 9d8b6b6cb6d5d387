pub mod Rows
pub mod Covering
pub mod Leaves
pub mod Scheduling
pub mod Marking
