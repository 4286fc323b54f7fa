pub mod Slots
pub mod Cuts
