pub mod Ranges
pub mod Units
