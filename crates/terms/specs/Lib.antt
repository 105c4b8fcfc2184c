pub mod Faults
pub mod Rules
pub mod Choice
pub mod Worked
