pub mod Offset
pub mod Change
pub mod Read
pub mod Part
pub mod Target
pub mod Resolved
pub mod Lent
pub mod Spent
