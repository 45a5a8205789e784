-- What the contracts of this crate say beside the rules.
-- The public ones cite the rules, and `joined` cites Held.
pub mod Aims
pub mod Steps
pub mod Held
