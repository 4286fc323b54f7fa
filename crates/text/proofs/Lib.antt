pub mod Puts
pub mod Places
pub mod Numerals
pub mod Hexes
pub mod Trips
pub mod Together
pub mod Decimals
