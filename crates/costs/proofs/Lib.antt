-- Laws that the proofs of the functions share.
pub mod Table
pub mod Counted
pub mod Ranges
pub mod Stretches
pub mod Rows
pub mod Held
pub mod Bounds
pub mod Unique
