pub mod Replies
pub mod Sized
pub mod EarnedCases
pub mod SizedEarned
pub mod Nothing
pub mod Accepted
