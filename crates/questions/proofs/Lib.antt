pub mod Seats
pub mod Grounds
pub mod Shown
pub mod Pairs
pub mod Shorts
pub mod Booked
