pub mod Backwards
pub mod Joins
pub mod Inside
pub mod Told
