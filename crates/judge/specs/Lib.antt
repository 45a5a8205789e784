-- What the judge's searches look for, and what its total asks, in the rules' terms.
-- The promise of `judge` cites the rules alone.
pub mod Recorded
