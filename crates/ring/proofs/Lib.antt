pub mod Entries
pub mod Telling
