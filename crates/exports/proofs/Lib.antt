-- What the exported promises leave open: nothing; and what a copy leaves.
pub mod Copying
pub mod Unique
