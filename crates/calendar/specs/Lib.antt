pub mod Tables
pub mod Changes
