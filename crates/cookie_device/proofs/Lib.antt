pub mod Appending
pub mod Lengths
pub mod LineEnds
pub mod Scanning
pub mod Sending
