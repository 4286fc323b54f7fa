pub mod Heads
pub mod Fills
