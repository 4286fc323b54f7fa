pub mod Stream
pub mod Post
pub mod Laying
