pub mod Device
pub mod Counted
pub mod FillError
pub mod LineBuffers
pub mod Joined
