-- The report.
pub mod Parts
pub mod Fits
pub mod Places
pub mod Pieces
pub mod Steps
pub mod Bare
