pub mod Joins
pub mod Shows
pub mod Dates
pub mod Readable
