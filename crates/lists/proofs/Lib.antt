pub mod Lists
pub mod Distinct
pub mod Spans
pub mod Search
pub mod Options
