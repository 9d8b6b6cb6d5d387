pub mod Walking
pub mod Portions
pub mod Tabling
pub mod Settling
pub mod Reaching
