pub mod Held
pub mod Verdict
