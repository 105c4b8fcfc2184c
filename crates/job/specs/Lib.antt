pub mod Replies
pub mod Transcript
pub mod Faults
pub mod Steps
