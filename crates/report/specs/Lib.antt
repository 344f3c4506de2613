pub mod Ahead
pub mod Laid
pub mod Printing
pub mod Said
pub mod Tables
