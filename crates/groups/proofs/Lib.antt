pub mod Answers
pub mod Entries
pub mod Fillings
pub mod Gaps
pub mod Groupings
pub mod Judgings
pub mod Layings
pub mod Pairs
