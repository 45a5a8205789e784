-- What the promises of the C functions leave open: nothing.
pub mod Unique
