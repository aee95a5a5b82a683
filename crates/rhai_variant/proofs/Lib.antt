pub mod ForCallers
pub mod Readings
pub mod SameReadings
