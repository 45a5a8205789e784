-- What is shown of the rules: that the plan is best, and what trainees ask.
-- Demand and Trainees are the statements; Fair and Instance tie the rules to the theory.
pub mod Demand
pub mod Trainees
pub mod Fair
pub mod Instance
