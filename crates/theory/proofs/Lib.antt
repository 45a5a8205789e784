-- What is shown of two queues on one line: from values and lists up to dominance and exchange.
-- No word of a railway stands here but trains, gaps, departures and costs.
pub mod Choices
pub mod Values
pub mod Integers
pub mod Facts
pub mod Permutations
pub mod Woven
pub mod Apart
pub mod Best
pub mod FirstBest
pub mod Soundness
pub mod Waiting
pub mod Dominance
pub mod Queue
pub mod Timed
pub mod Exchange
