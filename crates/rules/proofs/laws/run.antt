-- A run: its words, slots and ledger, and the steps.
pub mod Sites
pub mod Tables
pub mod Zeros
pub mod Slots
pub mod Ledgers
pub mod Links
pub mod Steps
pub mod Owed
pub mod Rows
pub mod Reads
pub mod Lags
pub mod Sound
pub mod Acts
pub mod Events
pub mod Rounds
pub mod Happens
pub mod Bursts
