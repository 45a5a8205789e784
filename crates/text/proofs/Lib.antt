-- Laws that the proofs of the functions share.
pub mod Decimal
pub mod Pages
pub mod Amounts
pub mod Splitting
pub mod Scans
pub mod Unique
