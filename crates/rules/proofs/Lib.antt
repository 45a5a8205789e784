-- Laws of the rules that what stands above them rests on.
pub mod Tests
pub mod Lists
pub mod Line
pub mod Trains
pub mod Refusals
pub mod Answers
