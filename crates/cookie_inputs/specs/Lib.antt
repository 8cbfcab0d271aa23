pub mod Errors
pub mod Suffixes
pub mod Urls
