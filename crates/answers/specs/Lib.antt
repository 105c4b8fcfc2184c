pub mod Faults
pub mod Texts
pub mod Room
pub mod Sinks
pub mod Longest
