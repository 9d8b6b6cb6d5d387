pub mod Calendar
pub mod Count
