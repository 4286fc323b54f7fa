pub mod Splices
pub mod Told
pub mod Whole
