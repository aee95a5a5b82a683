pub mod Catchable
pub mod Cost
pub mod Keys
pub mod Names
pub mod Walks
