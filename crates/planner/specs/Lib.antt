pub mod Faults
pub mod Layout
pub mod Search
pub mod Standing
pub mod Answers
pub mod Runs
pub mod Promise
