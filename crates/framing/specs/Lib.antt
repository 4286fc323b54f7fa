pub mod Frame
pub mod Front
