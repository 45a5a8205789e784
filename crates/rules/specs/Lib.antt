-- The rules of the line as definitions, a file for each heading, in the order in which they build on one another.
-- This is what a reader has to believe: the promises of planner and judge, and demand 3, are stated over these files.
pub mod Lists
pub mod Line
pub mod Figures
pub mod Objectives
pub mod Trains
pub mod Safe
pub mod Value
pub mod Orders
pub mod Refusals
pub mod Answers
pub mod Sections
pub mod Cases
