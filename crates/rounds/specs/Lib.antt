pub mod Values
pub mod Unions
