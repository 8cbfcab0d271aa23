pub mod Errors
pub mod Files
pub mod HostFields
pub mod Lines
pub mod Views
pub mod Written
