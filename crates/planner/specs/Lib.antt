-- What the planner's own functions promise, in the rules' and the theory's terms.
-- The promise of `plan` cites the rules, and demand 3.
pub mod Order
pub mod Queue
pub mod Clock
pub mod Trains
pub mod Rests
pub mod Cells
pub mod Day
pub mod Planning
pub mod OneProof
pub mod Filled
pub mod Walk
pub mod Writer
pub mod Promise
