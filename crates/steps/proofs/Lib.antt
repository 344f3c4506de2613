pub mod Tables
pub mod OneTable
pub mod Posting
pub mod Delivering
pub mod Merging
pub mod Choosing
