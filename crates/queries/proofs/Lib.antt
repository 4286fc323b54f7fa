pub mod Shows
pub mod Weights
pub mod Free
pub mod Runs
pub mod Spans
pub mod Found
pub mod Ranges
