pub mod Errors
pub mod ParsedLists
pub mod ParsedRules
pub mod ListFormat
pub mod Rules
pub mod Tree
pub mod Views
