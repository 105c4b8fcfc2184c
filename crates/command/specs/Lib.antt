pub mod Faults
pub mod Demands
pub mod Fields
pub mod Instructions
pub mod Pairs
pub mod Lines
