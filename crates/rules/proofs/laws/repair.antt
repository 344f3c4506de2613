-- Whether the order of repairs can matter: request 6.
pub mod Fits
pub mod Tables
pub mod Having
pub mod Runs
pub mod Orders
pub mod Rounds
