pub mod Place
pub mod Changes
pub mod Shares
pub mod Stretches
pub mod Calendars
pub mod Columns
pub mod Rated
