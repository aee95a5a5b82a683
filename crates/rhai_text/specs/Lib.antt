pub mod Bytes
pub mod Error
pub mod Quote
pub mod Text
