-- Groups.
pub mod Leb
pub mod Groups
