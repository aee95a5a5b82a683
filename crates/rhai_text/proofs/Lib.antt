mod Differs
pub mod ForCallers
mod Marked
mod Minus
mod Order
mod Quotes
mod Replaced
mod Runs
mod Spelled
pub mod Texts
