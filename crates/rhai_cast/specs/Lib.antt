pub use Rattle.rhai_value.specs.Tree
pub use Rattle.rhai_variant.specs.Reads
pub mod Casts
pub mod Arrays
pub mod Makers
