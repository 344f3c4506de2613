pub mod Lagging
pub mod Outcomes
pub mod Beginning
