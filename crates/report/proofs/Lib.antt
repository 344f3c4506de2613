pub mod Answers
pub mod Counted
pub mod Left
pub mod Passing
pub mod Saying
pub mod Words
