pub mod Absorbing
pub mod Outcomes
