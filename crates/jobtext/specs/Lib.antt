pub mod Faults
pub mod Parts
pub mod Lines
pub mod Numbers
pub mod Tokens
