pub mod Pairs
pub mod Judging
pub mod Search
pub mod Powers
pub mod Shift
pub mod Counting
pub mod Raising
