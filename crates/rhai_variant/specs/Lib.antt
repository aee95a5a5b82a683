pub use Rattle.rhai_value.specs.Tree
pub mod Reads
pub mod Refused
