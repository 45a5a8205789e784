-- What the contracts of this crate are stated by, beside the rules.
-- The promise of `refusal` cites the rules and Reasons alone.
pub mod Reasons
pub mod First
pub mod Trains
