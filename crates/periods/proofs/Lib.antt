pub mod Recording
pub mod Made
