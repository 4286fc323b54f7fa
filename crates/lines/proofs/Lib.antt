pub mod Whole
pub mod Books
pub mod Keeping
pub mod Turns
pub mod Layings
pub mod Streams
pub mod Program
