pub mod Tokens
pub mod Table
pub mod AssignTable
pub mod Numbers
pub mod Outcome
pub mod Results
pub mod Effects
pub mod Order
