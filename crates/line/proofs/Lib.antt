-- What the public promises leave open: nothing.
pub mod Unique
