pub mod FileRules
pub mod Positions
pub mod SomeRules
