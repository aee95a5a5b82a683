-- Expressions: their commands, the progress of an evaluation, and its contract.
pub mod Programs
pub mod Bindings
pub mod Layers
pub mod Taken
pub mod Evaluates
