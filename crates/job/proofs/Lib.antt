pub mod Obeys
pub mod Saying
pub mod Stepping
pub mod Going
pub mod Onlys
