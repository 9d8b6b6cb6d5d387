-- Read Book, Format and Verdict first: what a book holds, how it is written, what is accepted.
pub mod Position
pub mod Refusals
pub mod Number
pub mod Reader
pub mod Bytes
pub mod Sound
pub mod NumberLaws
pub mod Inverse
pub mod Within
pub mod Signed
pub mod Field
pub mod Codec
pub mod Enumeration
pub mod Book
pub mod Format
pub mod Verdict
pub mod InRange
