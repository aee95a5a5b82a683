pub mod IntBits
