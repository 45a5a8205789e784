-- Laws that the proofs of the functions share.
pub mod Sections
pub mod Files
pub mod Printed
pub mod Trains
pub mod Outcomes
pub mod Unique
