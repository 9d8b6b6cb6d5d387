pub mod Sought
pub mod Accepted
pub mod Lined
pub mod Sized
