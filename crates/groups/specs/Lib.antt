pub mod Decoding
pub mod Writing
