pub mod Packing
pub mod Refusing
