-- What follows from `meaning`.
pub mod Bits
pub mod Lengths
pub mod Serials
pub mod table
pub mod group
pub mod run
pub mod history
pub mod repair
pub mod Put
pub mod line
pub mod Members
pub mod report
pub mod Determined
