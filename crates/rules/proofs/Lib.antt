pub mod Promises
pub mod laws
pub mod cases
