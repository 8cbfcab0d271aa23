pub mod Appended
pub mod Causes
pub mod InTable
pub mod TwoCalls
