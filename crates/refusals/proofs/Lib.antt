-- Laws that the code's proofs rest on.
pub mod First
pub mod Table
pub mod Reasons
pub mod Parts
pub mod Unique
