pub mod Meanings
pub mod Together
pub mod Whole
