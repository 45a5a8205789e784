-- Laws behind the judge's code.
pub mod Late
pub mod Trains
pub mod Pairs
pub mod Refusals
pub mod Accepted
pub mod Verdicts
pub mod Totals
pub mod Unique
