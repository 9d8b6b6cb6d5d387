pub mod Overlays
pub mod Spans
pub mod Parts
pub mod Freed
pub mod Changes
