pub mod Days
pub mod Kept
