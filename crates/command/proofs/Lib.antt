pub mod DashLaws
pub mod FieldLaws
pub mod PairLaws
pub mod Decoded
pub mod Once
