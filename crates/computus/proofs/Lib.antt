pub mod Meeus
pub mod Cases
pub mod NearEaster
pub mod Pinned
