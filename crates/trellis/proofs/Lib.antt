pub mod Bests
pub mod Ways
pub mod Names
