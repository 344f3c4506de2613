-- What a list of events makes of a run: demands 2 and 3.
pub mod Figure4
pub mod Rising
pub mod Counting
pub mod Links
pub mod Pairs
pub mod Absorbing
pub mod Distinct
pub mod Climbing
pub mod Held
pub mod Offering
pub mod Room
pub mod Groups
