pub mod Gathering
pub mod Handing
pub mod Joining
pub mod Levelling
pub mod Outcomes
pub mod Repairing
pub mod Uniting
pub mod Walking
