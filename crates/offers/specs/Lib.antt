pub mod Faults
pub mod Offers
pub mod Own
pub mod Levels
pub mod Gain
pub mod InRange
pub mod Table
pub mod Eighths
