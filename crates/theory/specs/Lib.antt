-- Two queues of trains on one line, in general: values, the line, schedules, orders, the best of the rest.
-- What is shown of them stands in proofs/.
pub mod Values
pub mod Integers
pub mod Line
pub mod Schedule
pub mod Waiting
pub mod Orders
pub mod Merge
pub mod Permutations
pub mod Queue
pub mod Timed
