pub mod Listed
pub mod Laid
pub mod Dealt
