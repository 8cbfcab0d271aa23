pub mod Moments
pub mod Seconds
pub mod Steps
pub mod Strings
