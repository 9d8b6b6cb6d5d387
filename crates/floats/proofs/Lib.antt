-- The laws, and the lemmas that the functions' proofs cite.
pub mod Nearness
pub mod Halves
pub mod Comparing
pub mod Doubling
pub mod Bounds
pub mod Words
pub mod Laws
pub mod IndexLaws
pub mod Pinned
